-- The reader that goes by a branch for each kind, at each of its tests.
-- What is proved of the definitions in `specs/ByKind.antt`.
use Rattle.std.specs.Prelude.{ℕ, ◌+◌, ◌-◌, ◌≤◌, ◌<◌, ◌≡◌, Bool, not, List, eqb, get_or, take, drop}
use Rattle.std.proofs.Math.Path.{refl}
use Rattle.std.proofs.Common.{sym, ◌∙◌, ap, arith}
use Rattle.std.proofs.Math.Bool.{true, false}
use Rattle.std.proofs.Math.ListN.{length}
use borrow.Author.Tests.{eqb-true, eqb-false, ne_eqb, not-true}
use Rattle.word.specs.Number.{number_of}
use Rattle.segment.specs.Choice.{pick}
use Rattle.segment.proofs.Choice.{both_left, both_right}
use Rattle.segment.specs.Layout.{Layout, table, lookup, value_length, same_layout, other_layout, is_tombstone_kind, good_version}
use Rattle.segment.proofs.LayoutLaws.{same_layout_lem}
use Rattle.segment.specs.Kinds.{kind_size, size_or_zero}
use Rattle.segment.proofs.KindsLaws.{size-least}
use Rattle.segment.specs.Entry.{entry_at}
use Rattle.segment.specs.Entries.{next_of, next_read}
use Rattle.segment.proofs.EntriesLaws.{next-read}
use Rattle.segment.proofs.ReaderLaws.{reads-past, reads-at-end, reads-kind-end, reads-unknown, reads-long, reads-bad-version, reads-tombstone, reads-object}
use Rattle.segment.specs.declared.Edition.TheVariants.{First, Second}
use Rattle.segment.specs.declared.Version.{Version}
use Rattle.segment.specs.declared.Next.{Next}
use Rattle.segment.specs.declared.Next.TheVariants as N
use Rattle.cleaning.specs.ByKind.{KindStands, kind_test}

pub kind-stands : (L : Layout) (s : List ℕ) (at n : ℕ) (t : Bool) → at < length s → (k : ℕ) → get_or s at 0 ≡ k → kind_test L k n t ≡ true →
    KindStands L s at n t
kind-stands L s at n t h k is e = record { below = h; tested = ap (λ (x : ℕ). kind_test L x n t) is ∙ e }

-- any kind but these
module _ (k : ℕ) (n1 : k ≡ 1 → ⊥) (n2 : k ≡ 2 → ⊥) (n3 : k ≡ 3 → ⊥) (n4 : k ≡ 4 → ⊥) (n7 : k ≡ 7 → ⊥)
    (n9 : k ≡ 9 → ⊥) (n10 : k ≡ 10 → ⊥) (n11 : k ≡ 11 → ⊥) (n12 : k ≡ 12 → ⊥) (n13 : k ≡ 13 → ⊥) where
  pub no-entry-kind : (L : Layout) → kind_size L k ≡ 0
  unfolding table lookup value_length size_or_zero pick
  no-entry-kind First = simp (ne_eqb k 1 n1, ne_eqb k 2 n2, ne_eqb k 3 n3, ne_eqb k 4 n4, ne_eqb k 7 n7)
  no-entry-kind Second = simp (ne_eqb k 9 n9, ne_eqb k 10 n10, ne_eqb k 11 n11, ne_eqb k 12 n12, ne_eqb k 13 n13)

-- ---- the tests that come before

module _ (L : Layout) (s : List ℕ) (at : ℕ) where
  pub next_past : length s < at → N.Damage ≡ next_of L (entry_at L s at)
  unfolding next_read
  next_past h = next-read L _ _ _ (reads-past L s at h) refl

  pub next-at-end : at ≤ length s → length s ≤ at → N.End ≡ next_of L (entry_at L s at)
  unfolding next_read
  next-at-end h p = next-read L _ _ _ (reads-at-end L s at h p) refl

  pub next-kind-end : at < length s → get_or s at 0 ≡ 0 → N.End ≡ next_of L (entry_at L s at)
  unfolding next_read
  next-kind-end h k = next-read L _ _ _ (reads-kind-end L s at h k) refl

  pub next-unknown : at < length s → (get_or s at 0 ≡ 0 → ⊥) → kind_size L (get_or s at 0) ≡ 0 → N.Damage ≡ next_of L (entry_at L s at)
  unfolding next_read
  next-unknown h k e = next-read L _ _ _ (reads-unknown L s at (kind_size L (get_or s at 0)) refl h k e) refl

-- ---- where a known kind stands

other-layout : (K L : Layout) → same_layout K L ≡ false → K ≡ other_layout L
unfolding same_layout other_layout
other-layout First First e = cc
other-layout First Second e = refl
other-layout Second First e = refl
other-layout Second Second e = cc

module _ (L : Layout) (s : List ℕ) (at n : ℕ) (t : Bool) (stands : KindStands L s at n t) where
  sized : n ≡ kind_size L (get_or s at 0)
  unfolding kind_test
  sized = eqb-true n (kind_size L (get_or s at 0)) (both_left _ _ (both_left _ _ stands.tested))

  not-empty : n ≡ 0 → ⊥
  unfolding kind_test
  not-empty = eqb-false n 0 (not-true (eqb n 0) (both_right _ _ (both_left _ _ stands.tested)))

  not_end : get_or s at 0 ≡ 0 → ⊥
  unfolding kind_test
  not_end = eqb-false (get_or s at 0) 0 (not-true (eqb (get_or s at 0) 0) (both_left _ _ (both_left _ _ (both_right _ _ stands.tested))))

  not-other : kind_size (other_layout L) (get_or s at 0) ≡ 0
  unfolding kind_test
  not-other = eqb-true (kind_size (other_layout L) (get_or s at 0)) 0 (both_right _ _ (both_left _ _ (both_right _ _ stands.tested)))

  is-tombstone : pick t (is_tombstone_kind L (get_or s at 0)) (not (is_tombstone_kind L (get_or s at 0))) ≡ true
  unfolding kind_test
  is-tombstone = both_right _ _ (both_right _ _ stands.tested)

  -- an entry has at least the bytes before its value
  pub kind-long : 7 + (table L).width ≤ n
  kind-long = omega (arith, sized, size-least L (get_or s at 0) (λ e. not-empty (sized ∙ e)))

  module _ (K : Layout) where
    -- in a segment of the other layout
    pub next-other : same_layout K L ≡ false → N.Damage ≡ next_of K (entry_at K s at)
    next-other e =
        next-unknown K s at stands.below not_end (ap (λ (M : Layout). kind_size M (get_or s at 0)) (other-layout K L e) ∙ not-other)

    -- in one of its own
    module _ (same : same_layout K L ≡ true) where
      own : {x : Next} → x ≡ next_of L (entry_at L s at) → x ≡ next_of K (entry_at K s at)
      own e = e ∙ ap (λ (M : Layout). next_of M (entry_at M s at)) (sym (same_layout_lem K L same))

      pub next-long : length s - at < n → N.Damage ≡ next_of K (entry_at K s at)
      unfolding next_read
      next-long p = own (next-read L _ _ _ (reads-long L s at n sized stands.below not-empty p) refl)

      module _ (fits : n ≤ length s - at) (v : Version) (vs : v ≡ record { 0 = number_of (take (table L).width (drop (at + 7) s)) })
          (g : Bool) (gs : g ≡ good_version L v.0) where
        its-version : v.0 ≡ number_of (take (table L).width (drop (at + 7) s))
        its-version = ap (λ (x : Version). x.0) vs

        pub next-bad-version : g ≡ false → N.Damage ≡ next_of K (entry_at K s at)
        unfolding next_read
        next-bad-version bad =
            own (next-read L _ _ _ (reads-bad-version L s at n sized stands.below not-empty fits v.0 its-version g gs bad) refl)

        pub next-met : g ≡ true → (i k : ℕ) → i ≡ number_of (take 2 (drop (at + 1) s)) → k ≡ number_of (take 4 (drop (at + 3) s)) →
            N.Entry (record { key = record { table = i; key = k }; version = v; tombstone = t; length = n }) ≡ next_of K (entry_at K s at)
        unfolding next_read pick
        next-met good i k is ks = own (go t is-tombstone)
          where
            go : (b : Bool) → pick b (is_tombstone_kind L (get_or s at 0)) (not (is_tombstone_kind L (get_or s at 0))) ≡ true →
                N.Entry (record { key = record { table = i; key = k }; version = v; tombstone = b; length = n }) ≡ next_of L (entry_at L s at)
            go true e =
                next-read L _ _ _
                (reads-tombstone L s at n sized stands.below not-empty fits v.0 its-version g gs good i k is ks
                (eqb-true (get_or s at 0) (table L).tombstone_kind e)) refl
            go false e =
                next-read L _ _ _
                (reads-object L s at n sized stands.below not-empty fits v.0 its-version g gs good i k is ks
                (eqb-false (get_or s at 0) (table L).tombstone_kind (not-true (is_tombstone_kind L (get_or s at 0)) e))) refl
