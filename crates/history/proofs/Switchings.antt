-- The switch to the second edition (02, R-13) keeps the invariant; it is refused for nothing but an operation that is pending.
use Rattle.std.specs.Prelude.{Ok, Err}
use Prim.Native.Nat.{ℕ, ◌-◌, max}
use native.Mathlib.Nat.{max-zero}
use native.Mathlib.Omega.{arith}
use mathlib.Core.Path.{◌≡◌, refl, sym, ap, ◌∙◌, subst, subst⁻¹}
use mathlib.Core.Bool.{Bool, true, false, not}
use mathlib.Core.Logic.{inl, inr}
use mathlib.Core.List.{List, [], ◌∷◌}
use mathlib.Core.Option.{Option, none, some}
use lib.ListN.{length}
use Rattle.segment.specs.Choice.{pick}
use Rattle.segment.proofs.Choice.{both_left}
use Rattle.segment.specs.Layout.{Layout}
use Rattle.record.specs.Range.{in_range, lengths_own, fits_lent}
use Rattle.record.specs.Switch.{switched_on, switch_said}
use Rattle.record.specs.declared.Record.{Record}
use Rattle.record.specs.declared.Refusal.{Refusal}
use Rattle.record.specs.declared.Refusal.TheVariants.{BadRecord, Busy}
use Rattle.record.specs.Answered.{SwitchAnswer, Switching}
use Rattle.model.specs.Causes.{when, first_cause}
use Rattle.model.specs.Fewest.{no_lengths}
use Rattle.model.specs.Operations.{log_now, stores_for}
use Rattle.model.specs.Refused.{is_pending}
use Rattle.model.specs.Switching.{switch_causes, switching, SwitchPromise}
use Rattle.laws.specs.CauseLaws.{cause-skip, cause-first, cause-none}
use Rattle.laws.specs.Operated.{OperationLaws}
use Rattle.history.specs.Book.{switches, saying, Event, called, Awaited, Book, feed, feed_call, version_told}
use Rattle.history.specs.Editions.{Editions, Among, editions_after}
use Rattle.history.specs.Runs.{Held, World}
use Rattle.history.specs.Demand3.{SwitchAgrees, EventAgrees}
use Rattle.history.proofs.Invariant.{Inv, Agrees, SlotsAmong, Holding, HeldGood, Phase, idle, pending}
use Rattle.history.proofs.Tellings.{started-pending}
use Rattle.history.proofs.Readings.{held_fits}

-- slots may have all the editions that they might have before
switched-among : (E : Editions) (K : Layout) → Among E K → Among (record { format = E.format; switched = true }) K
switched-among E K (inl e) = inl e
switched-among E K (inr e) = inr (refl, e.1)

module _ (E : Editions) (L : Layout) (laws : OperationLaws L) (n s : ℕ) (area : List ℕ) (h : Held) (m : Option ℕ) (b : Book) (t : ℕ)
    (inv : Inv E L n s (record { area = area; held = some h; cells = m }) b t) (good : Holding E L n s area m b h)
  where
    abbrev event : Switching → Event
    event a = called switches no_lengths (saying (switch_said a.answer))

    abbrev SwitchGoal : Switching → Type 0
    SwitchGoal a =
        Inv (editions_after E (event a)) L n s (record { area = area; held = some (record { rec = a.rec; cells = h.cells; work = h.work }); cells = m })
        (feed b (event a)) (max t (version_told (event a)))
        × EventAgrees E b (event a)

    abbrev cause : Option Refusal
    cause = first_cause (switch_causes L h.rec)

    in-range : in_range L h.rec ≡ true
    unfolding fits_lent
    in-range =
        both_left (in_range L h.rec) (lengths_own h.rec (length area) (length h.cells)) (held_fits E L laws n s area m b h inv.bytes good)

    -- nothing is pending: the record is switched, and all else stays
    switched-on : (p : Phase L area b h) → b.pending ≡ none → SwitchGoal (switching none h.rec)
    unfolding switching editions_after feed feed_call version_told EventAgrees SwitchAgrees pick HeldGood
    switched-on p none-awaited = (
      rw (max-zero t)
          (record {
            bytes = inv.bytes;
            base = inv.base;
            agrees =
                record {
                  next-same = inv.agrees.next-same;
                  map_same = inv.agrees.map_same;
                  own-among = switched-among E L inv.agrees.own-among;
                  slots-among = λ i l q. switched-among E _ (inv.agrees.slots-among i l q);
                };
            below = inv.below;
            held =
                record {
                  slots_same = good.slots_same;
                  size_same = good.size_same;
                  cells_same = good.cells_same;
                  index-long = good.index-long;
                  genuine = record { recovers = good.genuine.recovers; rule = good.genuine.rule };
                  phase = idle-now p;
                  switch = λ q. refl;
                };
          }),
      subst⁻¹ (SwitchAgrees (saying (switch_said (Ok tt)))) none-awaited refl,
    )
      where
        idle-now : Phase L area b h → Phase L area b (record { rec = switched_on h.rec; cells = h.cells; work = h.work })
        idle-now (idle e q) = idle e q
        idle-now (pending st q) = let z : ◌≡◌ {A = ℕ} 0 1 = cc in absurd (omega arith)

    busy : (x : Awaited) → b.pending ≡ some x → SwitchGoal (switching (some Busy) h.rec)
    unfolding switching editions_after feed feed_call version_told EventAgrees SwitchAgrees pick
    busy x awaited = (rw (max-zero t) inv, subst⁻¹ (SwitchAgrees (saying (switch_said (Err Busy)))) awaited refl)

    pub switch-keeps : (a : Switching) → SwitchPromise L h.rec a → SwitchGoal a
    unfolding is_pending first_cause
    switch-keeps a p = subst⁻¹ SwitchGoal p.answers (by-phase good.phase)
      where
        by-phase : Phase L area b h → SwitchGoal (switching cause h.rec)
        by-phase (idle e q) =
            subst⁻¹ (λ (c : Option Refusal). SwitchGoal (switching c h.rec))
            (cause-skip (when (not (in_range L h.rec)) BadRecord) (when (is_pending h.rec.pending) Busy ∷ []) (ap not in-range) ∙
            cause-skip (when (is_pending h.rec.pending) Busy) [] (ap is_pending e))
            (switched-on (idle e q) q)
        by-phase (pending st q) =
            subst⁻¹ (λ (c : Option Refusal). SwitchGoal (switching c h.rec))
            (cause-skip (when (not (in_range L h.rec)) BadRecord) (when (is_pending h.rec.pending) Busy ∷ []) (ap not in-range) ∙
            cause-first (when (is_pending h.rec.pending) Busy) [] (started-pending L area h.rec h.work st))
            (busy (record { operation = st.operation; left = stores_for L st.idle (log_now st.before st.idle) st.operation - st.since }) q)
