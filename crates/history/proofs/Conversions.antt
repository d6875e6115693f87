-- A converted area has the book of the store that it was converted from, by the invariant of demand 3 (02, R-12).
use Prim.Native.Nat.{ℕ, max}
use native.Mathlib.Omega.{arith}
use mathlib.Core.Path.{refl, sym, ap, ◌∙◌, subst, subst⁻¹}
use mathlib.Core.Logic.{inl}
use mathlib.Core.List.{List}
use mathlib.Core.Option.{none, some}
use Rattle.segment.specs.Layout.{Layout, other_layout}
use Rattle.record.specs.declared.Record.{Record}
use Rattle.model.specs.Log.{Placed}
use Rattle.model.specs.Recovery.{record_from}
use Rattle.laws.specs.MapLaws.{value_at}
use Rattle.laws.specs.RecoverLaws.{recovered-own}
use Rattle.laws.specs.Converted.{SameStore, conversion-same, conversion-slots}
use Rattle.history.specs.Book.{Book, book_after, fresh_book, book_of, highest_told}
use Rattle.history.specs.Editions.{Editions, Among, formatted_in, editions_behind}
use Rattle.history.specs.Runs.{World}
use Rattle.history.specs.Conversions.{StoreWith, ConversionKeepsBook}
use Rattle.history.proofs.Invariant.{Inv, SlotsAmong, HeldGood, base_cells, recovered-is, next_of, log-of}
use Rattle.history.proofs.Theorem.{run-keeps, gives-book, fresh}

-- the invariant of the converted area, of which nothing is held
abbrev pub carried_world : World → List ℕ → World
carried_world w target = record { area = target; held = none; cells = w.cells }

carried-inv :
    (E : Editions) (L K : Layout) (n s : ℕ) (w : World) (b : Book) (t : ℕ) (target : List ℕ) → Inv E L n s w b t →
    SameStore K n s (base_cells w.cells) w.area target (record_from L n s (base_cells w.cells) w.area) →
    SlotsAmong (formatted_in K) n s target (record_from L n s (base_cells w.cells) w.area).map → Inv (formatted_in K) K n s (carried_world w target) b t
unfolding HeldGood
carried-inv E L K n s w b t target inv c slots =
    record {
      bytes = c.target-bytes;
      base = c.recovers ∙ ap some (recovered-is K n s m target c.rec c.recovers);
      agrees =
          record {
            next-same = next_of K n s m target c.rec c.recovers ∙ ap (λ v. v.0) c.same_next ∙ inv.agrees.next-same;
            map_same =
                λ k.
                ap (λ (log : List Placed). value_at log k) (log-of K n s m target c.rec c.recovers) ∙ sym (c.same_map k) ∙ inv.agrees.map_same k;
            own-among = inl refl;
            slots-among =
                subst (SlotsAmong (formatted_in K) n s target)
                (sym c.same-slots ∙ ap (λ (x : Record). x.map) (recovered-is K n s m target c.rec c.recovers)) slots;
          };
      below = inv.below;
      held = tt;
    }
  where
    m : ℕ
    m = base_cells w.cells

-- a world with the invariant is that of a store with that book
pub inv-store : (E : Editions) (L : Layout) (n s : ℕ) (w : World) (b : Book) (t : ℕ) → Inv E L n s w b t → StoreWith E n s w b t
inv-store E L n s w b t inv =
    record {
      recovery = gives-book n s E L w b t inv;
      later =
          λ es x r.
          let (K, kept, agrees) = run-keeps n s E L b t r inv in
          gives-book n s (editions_behind E es) K x (book_after b es) (max t (highest_told es)) kept;
      above-told = λ es x r. let (K, kept, agrees) = run-keeps n s E L b t r inv in kept.below;
      agrees = λ es x r. let (K, kept, agrees) = run-keeps n s E L b t r inv in agrees;
    }

-- For a store of either edition.
pub conversion-keeps-book : (L : Layout) → ConversionKeepsBook L
conversion-keeps-book L n s area₀ area ab p es w r target target' q =
    let (K, inv, agrees) = run-keeps n s (formatted_in L) L fresh_book 0 r (fresh n s L area₀ area ab p) in
    let m = base_cells w.cells in
    subst⁻¹ (λ (M : Layout). Among (editions_behind (formatted_in L) es) M × StoreWith (formatted_in (other_layout M)) n s (carried_world w target') (book_of es) (highest_told es))
    (recovered-own K n s m w.area (record_from K n s m w.area) inv.base).0 (
      inv.agrees.own-among,
      inv-store (formatted_in (other_layout K)) (other_layout K) n s (carried_world w target') (book_of es) (highest_told es)
          (carried-inv (editions_behind (formatted_in L) es) K (other_layout K) n s w (book_of es) (highest_told es) target' (told K inv)
          (conversion-same K n s m w.area target target' inv.bytes q (record_from K n s m w.area) inv.base)
          (λ i l named. inl (conversion-slots K n s m w.area target target' inv.bytes q (record_from K n s m w.area) inv.base i l named))),
    )
  where
    told : (K : Layout) → Inv (editions_behind (formatted_in L) es) K n s w (book_of es) (max 0 (highest_told es)) →
        Inv (editions_behind (formatted_in L) es) K n s w (book_of es) (highest_told es)
    told K inv = record { bytes = inv.bytes; base = inv.base; agrees = inv.agrees; below = omega (arith, inv.below); held = inv.held }
