-- Laws of: 01, "Bytes of a segment": the segments of an area, and what stands at a place of the area.
use Rattle.std.specs.Prelude.{ℕ, ◌+◌, ◌*◌, ◌-◌, ◌/◌, ◌%◌, ◌≤◌, ◌<◌, min, ◌≡◌, Bool, List, length}
use Rattle.std.proofs.Math.Path.{refl, ap}
use Rattle.std.proofs.Common.{sym, ◌∙◌, ap₂, add-zero, mod-eq_of_lt, arith, length-take, length-drop}
use Rattle.std.proofs.Math.Bool.{true, false}
use Rattle.std.proofs.Math.Nat.{mul-add-div_right, div-eq_of_lt, mul-add-mod_self_right}
use Rattle.std.proofs.Math.ListN.{get_or-eq_default}
use Rattle.segment.specs.Choice.{pick}
use Rattle.segment.specs.Layout.{Layout, edition1, layout_of_kind, table}
use Rattle.segment.proofs.Packed.{field_at}
use Rattle.segment.specs.Entry.{Entry, is_tombstone, key_of, kind_of, size_of, entry, entry_at, answer}
use Rattle.segment.proofs.EntryLaws.{found-fits, found-kind, found-layout, own-bytes}
use Rattle.segment.specs.declared.Read.{Read}
use Rattle.segment.specs.Area.{found_at, layout_at, object_at, object_length, segment_of, stands_at}

-- past the end no entry stands, of any edition
pub layout-past : (area : List ℕ) (p : ℕ) → length area ≤ p → edition1 ≡ layout_at area p
unfolding layout_of_kind table pick
layout-past area p h = ap layout_of_kind (sym (get_or-eq_default area 0 {n = p} h))

-- ---- a place and the slot and offset that it stands for

module _ (S i at : ℕ) (inside : at < S) where
  pub place-slot : (i * S + at) / S ≡ i
  place-slot = mul-add-div_right (omega arith) i at ∙ ap (λ (q : ℕ). i + q) (div-eq_of_lt inside) ∙ add-zero i

  pub place-offset : (i * S + at) % S ≡ at
  place-offset = mul-add-mod_self_right i S at ∙ mod-eq_of_lt inside

-- ---- an entry that stands at an offset of a slot stands at its place in the area

module _ (S : ℕ) (area : List ℕ) (i at : ℕ) (L : Layout) (e : Entry) (stands : entry_at L (segment_of area S i) at ≡ entry e) where
  inside : at + size_of L e ≤ min S (length area - i * S)
  inside = simp (length-take, length-drop) at (found-fits L (segment_of area S i) at e stands)

  pub entry_place : entry_at L area (i * S + at) ≡ entry e
  entry_place =
      own-bytes L (segment_of area S i) area at (i * S + at) e stands (omega (arith, inside))
      (sym (field_at (size_of L e) at S (i * S) area (omega (arith, inside))))

  pub place-layout : layout_at area (i * S + at) ≡ L
  place-layout = ap layout_of_kind (sym (found-kind L area (i * S + at) e entry_place)) ∙ found-layout L area (i * S + at) e entry_place

  pub found-place : found_at area (i * S + at) ≡ entry e
  found-place = ap (λ (K : Layout). entry_at K area (i * S + at)) place-layout ∙ entry_place

  pub stands-place : stands_at area (i * S + at) ≡ answer L (entry e)
  stands-place = ap₂ answer place-layout found-place

  pub object-place : object_at area (i * S + at) ≡ pick (is_tombstone e) 0 (size_of L e)
  unfolding object_length answer
  object-place = ap object_length stands-place ∙ go (is_tombstone e)
    where
      go : (t : Bool)
          → object_length (pick t (Read.Tombstone (key_of e) (record { 0 = e.version }) (size_of L e)) (Read.Object (key_of e) (record { 0 = e.version }) (kind_of L e) (size_of L e)))
          ≡ pick t 0 (size_of L e)
      go true = unfold pick in refl
      go false = unfold pick in refl
