-- The slot of a new head and its digest, as the code computes them.
use Rattle.std.specs.Prelude.{ℕ, ◌+◌, ◌-◌, ◌^◌, ◌<◌, ◌≡◌, true}
use Rattle.std.proofs.Common.{◌∙◌, ap, arith}
use Rattle.segment.specs.Layout.{Layout, number_limit}
use Rattle.segment.specs.declared.Version.{Version}
use Rattle.slot_map.specs.Bit.{bit, less, with_bit, within}
use Rattle.slot_map.proofs.CountLaws.{with-less}
use Rattle.slot_map.proofs.NextLaws.{next-below, next-clear}
use Rattle.record.specs.RangeLaws.{Lent}
use Rattle.record.specs.declared.Record.{Record}
use Rattle.model.specs.Operations.{new_slot, digest_with}

-- The digest number can go up.
abbrev pub NumberLeft : Record → Type 0
NumberLeft r = r.digest.0 ≡ number_limit → ⊥

-- A new head can come to a slot, in the place of victims.
pub record HeadReady (r : Record) (victims slot : ℕ) : Type 0 where
  pub below : slot < 32
  pub next : slot ≡ new_slot r
  pub clear : bit r.map slot ≡ 0
  pub inside : within victims r.map ≡ true
  pub number-left : NumberLeft r

-- it can in a record in range, whose log has the victims
pub head-ready :
    (L : Layout) (r : Record) (a i : ℕ) → Lent L r a i → (victims : ℕ) → within victims r.map ≡ true → NumberLeft r →
    (slot : ℕ) → slot ≡ new_slot r → HeadReady r victims slot
head-ready L r a i l victims in-log left slot e =
    record {
      below = omega (arith, next-below r.slots r.map r.head l.head-below l.some-free, l.slots-high);
      next = e;
      clear = ap (bit r.map) e ∙ next-clear r.slots r.map r.head l.head-below l.some-free;
      inside = in-log;
      number-left = left;
    }

-- its digest, by the maps that the code computes
pub digest-laid :
    (r : Record) (victims slot : ℕ) (next : Version) → HeadReady r victims slot → (kept map : ℕ) → kept ≡ less r.map victims →
    map ≡ with_bit kept slot →
    record { number = record { 0 = r.digest.0 + 1 }; map = map; next = next } ≡ digest_with r victims next
digest-laid r victims slot next h kept map e f =
    ap (λ (m : ℕ). record { number = record { 0 = r.digest.0 + 1 }; map = m; next = next })
    (f ∙ ap (λ (m : ℕ). with_bit m slot) e ∙ with-less r.map victims slot h.inside h.clear ∙
    ap (λ (i : ℕ). r.map - victims + 2 ^ i) h.next)
