-- Demand 3, from the laws of the store.
use Rattle.std.specs.Prelude.{Ok}
use Prim.Native.Nat.{ℕ, max}
use native.Mathlib.Nat.{max-zero}
use native.Mathlib.Omega.{arith}
use mathlib.Core.Path.{◌≡◌, refl, ap, ◌∙◌, subst, subst⁻¹}
use mathlib.Core.Bool.{Bool, true, false}
use mathlib.Core.Logic.{inl}
use mathlib.Core.List.{List, []}
use mathlib.Core.Option.{Option, none, some}
use lib.Dec.{eqb, leb}
use lib.ListN.{length}
use borrow.Author.Tests.{leb-true, eqb-true}
use Rattle.word.specs.Number.{Bytes}
use Rattle.segment.specs.Choice.{pick, both, is_none}
use Rattle.segment.proofs.Choice.{both_left, either-false-left, either-false-right}
use Rattle.segment.specs.Layout.{Layout, edition1, edition2, layout_numbered, number_of_layout}
use Rattle.segment.proofs.LayoutLaws.{numbered-layout}
use Rattle.record.specs.Range.{between, fits_lent}
use Rattle.record.specs.Answered.{FormatAnswer, Recovery}
use Rattle.record.specs.declared.Refusal.{Refusal}
use Rattle.record.specs.declared.Record.{Record}
use Rattle.model.specs.Log.{Placed, present, latest, object_only}
use Rattle.model.specs.Causes.{first_cause}
use Rattle.model.specs.Recovery.{recovered, record_from, order_bad, geometry_bad, recovery, recovery_for, image_layout}
use Rattle.model.specs.Operations.{log_now, formatted, formatted_as}
use Rattle.model.specs.Refused.{format_causes}
use Rattle.model.specs.Switching.{SwitchPromise}
use Rattle.model.specs.Promises.{Genuine, FormatPromise, RecoverPromise, IndexAfter, format_answer, area_unless, read_lengths, part_of, StartPromise, StepPromise}
use Rattle.laws.specs.CauseLaws.{cause-false}
use Rattle.laws.specs.MapLaws.{value_at, unplaced}
use Rattle.laws.specs.Members.{In}
use Rattle.laws.specs.RecoverLaws.{recovered-recovery}
use Rattle.laws.specs.Fresh.{format-slots}
use Rattle.laws.specs.OperationsKept.{edition-roomy, edition-laws}
use Rattle.history.specs.Book.{Event, Book, fresh_book, feed, book_after, book_of, version_told, highest_told}
use Rattle.history.specs.Editions.{Editions, Among, formatted_in, editions_after, editions_behind}
use Rattle.history.specs.Runs.{World, fresh_world, Moves, start, step, switch, ask, look, recover, cuts, Run, stop, go}
use Rattle.history.specs.Demand3.{LargeEnough, GivesBook, EventAgrees, EventsAgree, Demand3Of, Demand3}
use Rattle.history.proofs.Invariant.{Inv, HeldGood, base_cells, book_entry, placed-among, held-promise, area-promise}
use Rattle.history.proofs.Starts.{start-keeps}
use Rattle.history.proofs.Steps.{step_keeps}
use Rattle.history.proofs.Switchings.{switch-keeps}
use Rattle.history.proofs.Readings.{read_answer_lem, value-answer, ask-keeps}
use Rattle.history.proofs.Scannings.{look-keeps}
use Rattle.history.proofs.Recoveries.{recover-keeps, cut_keeps}

-- ---- an accepted format

accepted-none : (c : Option Refusal) → (Ok tt) ≡ format_answer c → c ≡ none
unfolding format_answer
accepted-none none q = refl
accepted-none (some c) q = cc

-- It was told the number of an edition, so what is shown below for each edition is shown for every accepted format.
pub format-edition :
    (e n s : ℕ) (area₀ area : List ℕ) → FormatPromise e n s area₀ area (Ok tt) → (L : Layout) × (e ≡ number_of_layout L)
unfolding layout_numbered number_of_layout pick is_none
format-edition e n s area₀ area p = go (eqb e 1) refl (eqb e 2) refl named
  where
    named : is_none (layout_numbered e) ≡ false
    named = either-false-right _ _ (cause-false _ [] (accepted-none (first_cause (format_causes e n s (length area₀))) p.answers))

    go : (t : Bool) → eqb e 1 ≡ t → (u : Bool) → eqb e 2 ≡ u → is_none (pick t (some edition1) (pick u (some edition2) none)) ≡ false →
        (L : Layout) × (e ≡ number_of_layout L)
    go true q u r h = (edition1, eqb-true e 1 q)
    go false q true r h = (edition2, eqb-true e 2 r)
    go false q false r h = let z : ◌≡◌ {A = ℕ} 0 1 = cc in absurd (omega arith)

-- what holds behind an event under a head of the layout L
beside : {P : Layout → Type 0} {A : Type 0} (L : Layout) → P L × A → (K : Layout) × P K × A
beside L x = (L, x.0, x.1)

module _ (n s : ℕ) where
  -- ---- one event

  -- Behind it the head may be of another edition.
  pub move-keeps :
      {w x : World} {e : Event} (E : Editions) (L : Layout) (b : Book) (t : ℕ) → Moves n s w e x → Inv E L n s w b t →
      (K : Layout) × Inv (editions_after E e) K n s x (feed b e) (max t (version_told e)) × EventAgrees E b e
  unfolding EventAgrees HeldGood editions_after
  move-keeps E L b t (start {area} {work} {work'} {h} {m} {q} {o} {a} ty p) inv =
      beside L
      (start-keeps E L (edition-laws L) n s area work work' h m q o a b t ty
      (held-promise E L n s area m b h inv.held (λ (K : Layout). StartPromise K q o h.rec area h.cells work work' a) p) inv)
  move-keeps E L b t (step {area} {area'} {cells'} {work} {h} {m} {a} own p) inv =
      step_keeps E L (edition-laws L) n s area area' cells' work h m a b t own
      (held-promise E L n s area m b h inv.held (λ (K : Layout). StepPromise K h.rec area area' h.cells cells' work a) p) inv
  move-keeps E L b t (switch {area} {h} {m} {a} p) inv =
      beside L
      (switch-keeps E L (edition-laws L) n s area h m b t inv inv.held a
      (held-promise E L n s area m b h inv.held (λ (K : Layout). SwitchPromise K h.rec a) p))
  move-keeps E L b t (ask p) inv = beside L (ask-keeps E L (edition-laws L) n s b t p inv)
  move-keeps E L b t (look p) inv = beside L (look-keeps E L (edition-laws L) n s b t p inv)
  move-keeps E L b t (recover {w} {order} {cells} {cells'} {r} p) inv =
      let promise = area-promise E L n s w b t inv (λ (K : Layout). RecoverPromise K n s order w.area cells cells' r) p in
      (L, recover-keeps E L n s w b t order (read_lengths w.area cells) cells cells' r promise inv, tt)
  move-keeps E L b t (cuts {w}) inv = (L, cut_keeps E L n s w b t inv, tt)

  -- ---- a list of events

  pub run-keeps :
      {w x : World} {es : List Event} (E : Editions) (L : Layout) (b : Book) (t : ℕ) → Run n s w es x → Inv E L n s w b t →
      (K : Layout) × Inv (editions_behind E es) K n s x (book_after b es) (max t (highest_told es)) × EventsAgree E b es
  unfolding book_after highest_told EventsAgree editions_behind
  run-keeps E L b t stop inv = (L, rw (max-zero t) inv, tt)
  run-keeps E L b t (go {w} {x} {y} {e} {es} m r) inv =
      let (K, now, agrees) = move-keeps E L b t m inv in
      let (M, then, rest) = run-keeps (editions_after E e) K (feed b e) (max t (version_told e)) r now in
      (M, subst (λ (k : ℕ). Inv (editions_behind (editions_after E e) es) M n s y (book_after (feed b e) es) k) (omega arith) then, (agrees, rest))

  -- ---- what recovery then gives

  -- an index that is large enough suffices
  enough :
      (E : Editions) (L : Layout) (w : World) (b : Book) (t m : ℕ) → Inv E L n s w b t → LargeEnough w.cells m →
      recovered L n s m w.area ≡ some (record_from L n s m w.area)
  unfolding LargeEnough base_cells between
  enough E L w b t m inv large = go' w.cells inv.base large
    where
      go' :
          (c : Option ℕ) → recovered L n s (base_cells c) w.area ≡ some (record_from L n s (base_cells c) w.area) → LargeEnough c m →
          recovered L n s m w.area ≡ some (record_from L n s m w.area)
      go' none e h = (edition-laws L).more-cells n s 16 m w.area e h (leb-true 16 m (both_left (leb 16 m) (leb m 4096) h))
      go' (some c) e h = (edition-laws L).more-cells n s c m w.area e h.0 h.1

  pub gives-book :
      (E : Editions) (L : Layout) (w : World) (b : Book) (t : ℕ) → Inv E L n s w b t → (order cells cells' : List ℕ) (r : Recovery) → order_bad n order ≡ false →
      LargeEnough w.cells (length cells) → RecoverPromise (image_layout n s w.area) n s order w.area cells cells' r →
      GivesBook E w.area cells' r b
  unfolding recovery recovery_for IndexAfter
  gives-book E L w b t inv order cells cells' r good large given = subst⁻¹ (λ (x : Recovery). GivesBook E w.area cells' x b) answered book
    where
      p : RecoverPromise L n s order w.area cells cells' r
      p = area-promise E L n s w b t inv (λ (K : Layout). RecoverPromise K n s order w.area cells cells' r) given

      rec : Record
      rec = record_from L n s (length cells) w.area

      recovers : recovered L n s (length cells) w.area ≡ some rec
      recovers = enough E L w b t (length cells) inv large

      answered : r ≡ recovery_for none rec
      answered = p.answers ∙ recovered-recovery L n s (length cells) w.area order rec good recovers

      rule : IndexAfter w.area cells cells' (recovery_for none rec) (recovery_for none rec).answer
      rule = subst (λ (x : Recovery). IndexAfter w.area cells cells' x x.answer) answered p.index

      among : (y : Placed) → In y (log_now w.area rec) → Among E y.layout
      among = placed-among E w.area rec inv.agrees.slots-among

      genuine : Genuine L w.area rec cells'
      genuine = record { recovers = recovers; rule = rule }

      fits : fits_lent L rec (length w.area) (length cells') ≡ true
      fits =
          ap (λ (c : ℕ). fits_lent L rec (length w.area) c) p.same_length ∙
          (edition-laws L).own-lengths n s (length cells) w.area rec inv.bytes recovers

      book : GivesBook E w.area cells' (recovery_for none rec) b
      book =
          record {
            is-accepted = refl;
            own-edition = inv.agrees.own-among;
            not-switched = refl;
            next-version = inv.agrees.next-same;
            answers =
                λ t k ty held a q.
                let (K, its, answer) =
                read_answer_lem E L (edition-laws L) n s w.area cells' rec inv.bytes recovers fits t k (b.keys k) (inv.agrees.map_same k)
                inv.agrees.own-among among held in
                (K, its, q.exact genuine ∙ answer);
            values =
                λ t k ty held v q.
                ap (part_of w.area) (q.exact genuine) ∙
                value-answer E L (edition-laws L) n s w.area cells' rec inv.bytes recovers fits t k (b.keys k) (inv.agrees.map_same k)
                inv.agrees.own-among among held;
          }

  -- ---- the fresh store

  pub fresh :
      (L : Layout) (area₀ area : List ℕ) → Bytes area₀ → FormatPromise (number_of_layout L) n s area₀ area (Ok tt) →
      Inv (formatted_in L) L n s (fresh_world area) fresh_book 0
  unfolding format_answer area_unless formatted_as base_cells HeldGood between both present latest object_only unplaced book_entry
  fresh L area₀ area ab p = subst⁻¹ (λ (x : List ℕ). Inv (formatted_in L) L n s (fresh_world x) fresh_book 0) left start'
    where
      cause : Option Refusal
      cause = first_cause (format_causes (number_of_layout L) n s (length area₀))

      no-cause : cause ≡ none
      no-cause = accepted-none cause p.answers

      geometry : geometry_bad n s (length area₀) ≡ false
      geometry = either-false-left _ _ (cause-false _ [] no-cause)

      left : area ≡ formatted L n s area₀
      left =
          p.leaves ∙ ap (λ (c : Option Refusal). area_unless c (formatted_as (layout_numbered (number_of_layout L)) n s area₀) area₀) no-cause
          ∙ ap (λ (o : Option Layout). formatted_as o n s area₀) (numbered-layout L)

      recovers : recovered L n s 16 (formatted L n s area₀) ≡ some (record_from L n s 16 (formatted L n s area₀))
      recovers = (edition-laws L).format-recovers n s 16 area₀ geometry refl

      start' : Inv (formatted_in L) L n s (fresh_world (formatted L n s area₀)) fresh_book 0
      start' =
          record {
            bytes = (edition-laws L).format-bytes n s area₀ ab;
            base = recovers;
            agrees =
                record {
                  next-same = ((edition-laws L).format-log n s 16 area₀ geometry).1;
                  map_same = λ k. ap (λ (log : List Placed). value_at log k) ((edition-laws L).format-log n s 16 area₀ geometry).0;
                  own-among = inl refl;
                  slots-among = λ i l q. inl (format-slots L (edition-roomy L) n s area₀ geometry i l q);
                };
            below = omega arith;
            held = tt;
          }

  pub run_holds :
      (L : Layout) (area₀ area : List ℕ) → Bytes area₀ → FormatPromise (number_of_layout L) n s area₀ area (Ok tt) → (es : List Event) (w : World) →
      Run n s (fresh_world area) es w → Demand3Of L n s w es
  run_holds L area₀ area ab p es w r =
      let (K, kept, agrees) = run-keeps (formatted_in L) L fresh_book 0 r (fresh L area₀ area ab p) in
      record {
        recovery = gives-book (editions_behind (formatted_in L) es) K w (book_of es) (max 0 (highest_told es)) kept;
        above-told = omega (arith, kept.below);
        agrees = agrees;
      }

-- Demand 3, for either edition.
pub demand-3 : Demand3
demand-3 L n s area₀ area ab p es w r = run_holds n s L area₀ area ab p es w r
