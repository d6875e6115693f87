-- Whether a version of a slot is none of another layout (30).
use Prim.Native.Nat.{ℕ, zero, suc, ◌+◌, ◌≤◌, ◌<◌, max}
use Rattle.std.specs.Prelude.{◌≡◌, Bool, false, ltb}
use Rattle.std.proofs.Math.Path.{refl}
use Rattle.std.proofs.Common.{sym, ◌∙◌, ap, arith, lt-ltb, le-ltb}
use Rattle.std.proofs.Math.Bool.{true, not}
use mathlib.Core.List.{List, [], ◌∷◌, ◌++◌}
use Rattle.std.proofs.Math.Option.{some}
use Rattle.std.proofs.Math.Decide.{dec_le, ℕ_discrete}
use Rattle.segment.specs.Choice.{both, either}
use Rattle.segment.proofs.Choice.{both_true, either-false, either-true-left, either-true-right}
use Rattle.segment.specs.Layout.{Layout, version_limit, table}
use Rattle.segment.specs.Digest.{digest_of}
use Rattle.segment.specs.declared.Digest.{Digest}
use Rattle.segment.specs.declared.Edition.TheVariants.{First, Second}
use Rattle.model.specs.Log.{View, Item, items_of, placed_in, log_of, highest}
use Rattle.model.specs.Conversion.{entries_in, version_too_wide, next_too_wide, slot_too_wide}
use Rattle.laws.specs.Scans.{item_entries}
use Rattle.laws.specs.LogLaws.{part_of, part-picked, part-passed}
use Rattle.laws.specs.Versions.{highest-append}
use Rattle.converting.specs.PartLaws.{PartOf, any-skip, any-turn, any_found}

-- ---- a slot's digest

pub next-is : (K : Layout) (d : Digest) → next_too_wide K (some d) ≡ ltb (version_limit K) d.next.0
unfolding next_too_wide
next-is K d = refl

-- ---- the highest version of the log tells of all entries

limit-positive : (K : Layout) → 0 < version_limit K
unfolding table
limit-positive First = omega arith
limit-positive Second = omega arith

module _ (K L : Layout) (i : ℕ) where
  items-narrow : (xs : List Item) → highest (placed_in L i xs) < version_limit K → version_too_wide K (item_entries xs) ≡ false
  unfolding highest placed_in version_too_wide
  items-narrow [] h = refl
  items-narrow (x ∷ xs) h =
      either-false (not (ltb x.entry.version (version_limit K))) (version_too_wide K (item_entries xs))
      (ap not (lt-ltb x.entry.version (version_limit K) (omega arith))) (items-narrow xs (omega arith))

  items-wide : (xs : List Item) → version_limit K ≤ highest (placed_in L i xs) → version_too_wide K (item_entries xs) ≡ true
  unfolding highest placed_in version_too_wide
  items-wide [] h = absurd (omega (arith, limit-positive K))
  items-wide (x ∷ xs) h = go (dec_le (version_limit K) x.entry.version) (λ l. items-wide xs l)
    where
      go : Dec (version_limit K ≤ x.entry.version) → (version_limit K ≤ highest (placed_in L i xs) → version_too_wide K (item_entries xs) ≡ true)
          → either (not (ltb x.entry.version (version_limit K))) (version_too_wide K (item_entries xs)) ≡ true
      go (yes l) below =
          either-true-left (not (ltb x.entry.version (version_limit K))) (version_too_wide K (item_entries xs))
          (ap not (le-ltb x.entry.version (version_limit K) l))
      go (no l) below =
          either-true-right (not (ltb x.entry.version (version_limit K))) (version_too_wide K (item_entries xs)) (below (omega arith))

-- a slot of the log has no version above the log's highest
part-below : (v : ℕ → View) (p : ℕ → Bool) (n i : ℕ) → i < n → p i ≡ true → highest (placed_in (v i).layout i (items_of (v i).scan)) ≤ highest (log_of v p n)
unfolding log_of
part-below v p zero i h q = absurd (omega arith)
part-below v p (suc n) i h q = go (ℕ_discrete i n) (λ k. part-below v p n i k q)
  where
    both_high : highest (log_of v p n ++ part_of v p n) ≡ max (highest (log_of v p n)) (highest (part_of v p n))
    both_high = highest-append (log_of v p n) (part_of v p n)

    go : Dec (i ≡ n) → (i < n → highest (placed_in (v i).layout i (items_of (v i).scan)) ≤ highest (log_of v p n))
        → highest (placed_in (v i).layout i (items_of (v i).scan)) ≤ highest (log_of v p n ++ part_of v p n)
    go (yes e) below =
        let own : highest (placed_in (v i).layout i (items_of (v i).scan)) ≡ highest (part_of v p n) =
        ap highest (sym (part-picked v p i q)) ∙ ap (λ (k : ℕ). highest (part_of v p k)) e in
        omega (arith, both_high, own)
    go (no e) below = omega (arith, both_high, below (omega arith))

-- ---- the slots of a log

module _ (K : Layout) (v : ℕ → View) (p : ℕ → Bool) where
  abbrev too_wide : ℕ → Bool
  too_wide m = either (next_too_wide K (v m).digest) (version_too_wide K (entries_in (v m)))

  wide_step : (m : ℕ) → slot_too_wide K v p (suc m) ≡ either (slot_too_wide K v p m) (both (p m) (too_wide m))
  unfolding slot_too_wide
  wide_step m = refl

  pub wide-none : slot_too_wide K v p 0 ≡ false
  unfolding slot_too_wide
  wide-none = refl

  module _ (i : ℕ) where
    pub wide-skip : p i ≡ false → slot_too_wide K v p i ≡ false → slot_too_wide K v p (i + 1) ≡ false
    wide-skip = any-skip (slot_too_wide K v p) p too_wide wide_step i

    -- where the highest version is one of K, the digest decides
    module _ (n : ℕ) (below : highest (log_of v p n) < version_limit K) (in-log : i < n) (picked : p i ≡ true) {L : Layout} {part : List ℕ}
        (o : PartOf L (v i) part) (t : Bool) (is : t ≡ next_too_wide K (some (digest_of L part))) where
      narrow : version_too_wide K (entries_in (v i)) ≡ false
      narrow = items-narrow K (v i).layout i (items_of (v i).scan) (omega (arith, part-below v p n i in-log picked))

      its-digest : next_too_wide K (v i).digest ≡ t
      its-digest = ap (next_too_wide K) o.digest ∙ sym is

      pub wide-turn : t ≡ false → slot_too_wide K v p i ≡ false → slot_too_wide K v p (i + 1) ≡ false
      wide-turn e =
          any-turn (slot_too_wide K v p) p too_wide wide_step i
          (either-false (next_too_wide K (v i).digest) (version_too_wide K (entries_in (v i))) (its-digest ∙ e) narrow)

      pub wide-found : t ≡ true → true ≡ slot_too_wide K v p n
      wide-found e =
          any_found (slot_too_wide K v p) p too_wide wide_step i picked
          (either-true-left (next_too_wide K (v i).digest) (version_too_wide K (entries_in (v i))) (its-digest ∙ e)) n in-log

  -- where it is none of K, some entry has it
  pub wide-highest : (n : ℕ) → version_limit K ≤ highest (log_of v p n) → slot_too_wide K v p n ≡ true
  unfolding log_of highest
  wide-highest zero h = absurd (omega (arith, limit-positive K))
  wide-highest (suc n) h = wide_step n ∙ go (dec_le (version_limit K) (highest (log_of v p n))) (λ l. wide-highest n l)
    where
      both_high : highest (log_of v p n ++ part_of v p n) ≡ max (highest (log_of v p n)) (highest (part_of v p n))
      both_high = highest-append (log_of v p n) (part_of v p n)

      own : (b : Bool) → p n ≡ b → version_limit K ≤ highest (part_of v p n) → both (p n) (too_wide n) ≡ true
      own true q l =
          both_true (p n) (too_wide n) q
          (either-true-right (next_too_wide K (v n).digest) (version_too_wide K (entries_in (v n)))
          (items-wide K (v n).layout n (items_of (v n).scan) (omega (arith, ap highest (part-picked v p n q)))))
      own false q l = absurd (omega (arith, ap highest (part-passed v p n q), limit-positive K))

      go : Dec (version_limit K ≤ highest (log_of v p n)) → (version_limit K ≤ highest (log_of v p n) → slot_too_wide K v p n ≡ true)
          → either (slot_too_wide K v p n) (both (p n) (too_wide n)) ≡ true
      go (yes l) before = either-true-left (slot_too_wide K v p n) (both (p n) (too_wide n)) (before l)
      go (no l) before = either-true-right (slot_too_wide K v p n) (both (p n) (too_wide n)) (own (p n) refl (omega (arith, both_high)))
