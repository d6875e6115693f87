-- The reader's answer at each of its tests, in the code's order. Premises are the tests as the code has them, and what its callees give.
use Rattle.std.specs.Prelude.{ℕ, ◌+◌, ◌-◌, ◌≤◌, ◌<◌, ◌≡◌, Bool, true, false, List, length, get_or, take, drop}
use Rattle.std.proofs.Common.{sym, ◌∙◌, ap, arith, eq-eqb, ne_eqb}
use Rattle.std.proofs.Math.Option.{Option, some}
use Rattle.word.specs.Number.{number_of}
use Rattle.segment.specs.Choice.{is_none}
use Rattle.segment.specs.Layout.{Layout, is_tombstone_kind, entry_size, good_version, table}
use Rattle.segment.proofs.Packed.{length_part}
use Rattle.segment.proofs.ValueLaws.{no_value, kind-back, bytes_back}
use Rattle.segment.specs.Entry.{Entry, kind_for, value_for, size_of, entry, entry_at, answer}
use Rattle.segment.proofs.EntryLaws.{past_end, at-end, kind-end, kind-unknown, entry-long, version-bad, entry_whole}
use Rattle.segment.proofs.AnswerLaws.{answer-end, answer-damage, answer-tombstone, answer-object}
use Rattle.segment.specs.Kinds.{kind_size, Kind}
use Rattle.segment.proofs.KindsLaws.{no_size, has-size}
use Rattle.segment.specs.declared.Read.TheVariants.{Object, Tombstone, End, Damage}

module _ (L : Layout) (s : List ℕ) (at : ℕ) where
  pub reads-past : length s < at → Damage ≡ answer L (entry_at L s at)
  reads-past h = sym (ap (answer L) (past_end L s at h) ∙ answer-damage L)

  pub reads-at-end : at ≤ length s → length s ≤ at → End ≡ answer L (entry_at L s at)
  reads-at-end h p = sym (ap (answer L) (at-end L s at (omega arith)) ∙ answer-end L)

  pub reads-kind-end : at < length s → get_or s at 0 ≡ 0 → End ≡ answer L (entry_at L s at)
  reads-kind-end h k = sym (ap (answer L) (kind-end L s at h k) ∙ answer-end L)

  -- z is what the table of kinds gives
  module _ (z : ℕ) (is : z ≡ kind_size L (get_or s at 0)) (h : at < length s) where
    pub reads-unknown : (get_or s at 0 ≡ 0 → ⊥) → z ≡ 0 → Damage ≡ answer L (entry_at L s at)
    reads-unknown k e = sym (ap (answer L) (kind-unknown L s at h k (no_size L (get_or s at 0) (sym is ∙ e))) ∙ answer-damage L)

    sized : (z ≡ 0 → ⊥) → (n : ℕ) × Kind L (get_or s at 0) n
    sized nz = has-size L (get_or s at 0) (λ e. nz (is ∙ e))

    pub reads-long : (z ≡ 0 → ⊥) → length s - at < z → Damage ≡ answer L (entry_at L s at)
    reads-long nz p = go (sized nz)
      where
        go : (n : ℕ) × Kind L (get_or s at 0) n → Damage ≡ answer L (entry_at L s at)
        go (n, k) = sym (ap (answer L) (entry-long L s at n h k.known (omega (arith, k.size))) ∙ answer-damage L)

    -- the whole entry is there; v is its version and g the test of it
    module _ (nz : z ≡ 0 → ⊥) (fits : z ≤ length s - at) (v : ℕ) (vs : v ≡ number_of (take (table L).width (drop (at + 7) s)))
        (g : Bool) (gs : g ≡ good_version L v) where
      pub reads-bad-version : g ≡ false → Damage ≡ answer L (entry_at L s at)
      reads-bad-version bad = go (sized nz)
        where
          go : (n : ℕ) × Kind L (get_or s at 0) n → Damage ≡ answer L (entry_at L s at)
          go (n, k) =
              sym (ap (answer L) (version-bad L s at n h k.known (omega (arith, k.size)) (ap (good_version L) (sym vs) ∙ sym gs ∙ bad))
              ∙ answer-damage L)

      -- t and k are its table and key
      module _ (good : g ≡ true) (t k : ℕ) (ts : t ≡ number_of (take 2 (drop (at + 1) s))) (ks : k ≡ number_of (take 4 (drop (at + 3) s))) where
        -- the entry, whatever its value
        abbrev with_value : Option (List ℕ) → Entry
        with_value x = record { table = t; key = k; version = v; value = x }

        -- What is read is an entry of that length, kind and value.
        record Reads (x : Option (List ℕ)) : Type 0 where
          is-entry : entry_at L s at ≡ entry (with_value x)
          size : size_of L (with_value x) ≡ z
          tombstone : is_none x ≡ is_tombstone_kind L (get_or s at 0)
          kind : kind_for L x ≡ get_or s at 0

        reads-entry : (x : Option (List ℕ)) × Reads x
        reads-entry = go (sized nz)
          where
            go : (n : ℕ) × Kind L (get_or s at 0) n → (x : Option (List ℕ)) × Reads x
            go (n, kind) =
                let size : z ≡ entry_size L n = is ∙ kind.size in
                let bytes = take n (drop (at + (7 + (table L).width)) s) in
                let long : length bytes ≡ n = length_part n (at + (7 + (table L).width)) s (omega arith) in
                let known = kind.known ∙ ap some (sym long) in (
                  value_for L (get_or s at 0) bytes,
                  record {
                    is-entry =
                        entry_whole L s at n h kind.known (omega arith) (ap (good_version L) (sym vs) ∙ sym gs ∙ good)
                        ∙ λ i. entry (record { table = sym ts i; key = sym ks i; version = sym vs i; value = value_for L (get_or s at 0) bytes });
                    size = ap (λ (b : List ℕ). entry_size L (length b)) (bytes_back L (get_or s at 0) bytes known) ∙ ap (entry_size L) long ∙ sym size;
                    tombstone = no_value L (get_or s at 0) bytes;
                    kind = kind-back L (get_or s at 0) bytes known;
                  },
                )

        pub reads-tombstone : get_or s at 0 ≡ (table L).tombstone_kind → Tombstone (record { table = t; key = k }) (record { 0 = v }) z ≡ answer L (entry_at L s at)
        reads-tombstone tomb =
            let (x, r) = reads-entry in
            sym
            (ap (answer L) r.is-entry
            ∙ answer-tombstone L (with_value x) (r.tombstone ∙ eq-eqb (get_or s at 0) (table L).tombstone_kind tomb)
            ∙ ap (Tombstone (record { table = t; key = k }) (record { 0 = v })) r.size)

        pub reads-object : (get_or s at 0 ≡ (table L).tombstone_kind → ⊥) → Object (record { table = t; key = k }) (record { 0 = v }) (get_or s at 0) z ≡ answer L (entry_at L s at)
        reads-object no-tomb =
            let (x, r) = reads-entry in
            sym
            (ap (answer L) r.is-entry
            ∙ answer-object L (with_value x) (r.tombstone ∙ ne_eqb (get_or s at 0) (table L).tombstone_kind no-tomb)
            ∙ λ i. Object (record { table = t; key = k }) (record { 0 = v }) (r.kind i) (r.size i))
