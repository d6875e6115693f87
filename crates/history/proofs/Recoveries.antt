-- A recovery and a cut keep the invariant.
use Rattle.std.specs.Prelude.{Ok, Err}
use Prim.Native.Nat.{ℕ, max}
use native.Mathlib.Nat.{max-zero}
use native.Mathlib.Omega.{arith}
use mathlib.Core.Path.{◌≡◌, refl, ap, subst, subst⁻¹}
use mathlib.Core.Bool.{Bool, true, false}
use mathlib.Core.List.{List, []}
use mathlib.Core.Option.{Option, none, some}
use lib.Dec.{eqb}
use lib.ListN.{length}
use Rattle.segment.specs.Choice.{pick}
use Rattle.segment.specs.Layout.{Layout}
use Rattle.record.specs.Answers.{recover_said, blank}
use Rattle.record.specs.Refusals.{number_of_refusal}
use Rattle.record.specs.Answered.{Recovery, RecoverAnswer}
use Rattle.record.specs.declared.Refusal.{Refusal}
use Rattle.record.specs.declared.Record.{Record}
use Rattle.model.specs.Causes.{first_cause}
use Rattle.model.specs.Recovery.{image_layout, recovered, record_from, recover_causes, recovery, recovery_for}
use Rattle.model.specs.Index.{IndexRule}
use Rattle.model.specs.Operations.{log_now}
use Rattle.model.specs.Refused.{Lengths}
use Rattle.model.specs.Promises.{RecoverPromise, IndexAfter}
use Rattle.laws.specs.CauseLaws.{refusal-number}
use Rattle.laws.specs.RecoverLaws.{recovery-recovered, recovered-image}
use Rattle.history.specs.Book.{recovers, saying, Event, called, cut, Book, feed, feed_call, without_pending, version_told}
use Rattle.history.specs.Editions.{Editions}
use Rattle.history.specs.Runs.{Held, World, recovered_world}
use Rattle.history.proofs.Invariant.{Inv, Holding, HeldGood, base_cells, idle, rebuilt}

-- where recovery is accepted, the area recovers to its record
pub accepted-recovers :
    (L : Layout) (n s m : ℕ) (order area : List ℕ) → image_layout n s area ≡ L → first_cause (recover_causes L n s m order area) ≡ none →
    recovered L n s m area ≡ some (record_from L n s m area)
unfolding recovery recovery_for
accepted-recovers L n s m order area own e =
    recovery-recovered L n s m area order (record_from L n s m area) own (ap (λ (c : Option Refusal). recovery_for c (record_from L n s m area)) e)

module _ (E : Editions) (L : Layout) (n s : ℕ) where
  -- what is to be shown of a recovery that answers r and leaves these cells
  abbrev pub recover_event : List ℕ → Lengths → Recovery → Event
  recover_event order lent r = called (recovers n s order) lent (saying (recover_said r.answer))

  abbrev pub RecoverGoal : World → Book → ℕ → List ℕ → Lengths → List ℕ → Recovery → Type 0
  RecoverGoal w b t order lent cells' r =
      Inv E L n s (recovered_world w cells' r) (feed b (recover_event order lent r)) (max t (version_told (recover_event order lent r)))

  -- without what is held, the invariant stays
  pub dropped : (w : World) (b : Book) (t : ℕ) → Inv E L n s w b t → Inv E L n s (record { area = w.area; held = none; cells = w.cells }) b t
  unfolding HeldGood
  dropped w b t inv = record { bytes = inv.bytes; base = inv.base; agrees = inv.agrees; below = inv.below; held = tt }

  refused :
      (w : World) (b : Book) (t : ℕ) (order : List ℕ) (lent : Lengths) (cells' : List ℕ) (c : Refusal) → Inv E L n s w b t →
      RecoverGoal w b t order lent cells' (record { answer = Err c; rec = blank })
  unfolding feed version_told pick
  refused w b t order lent cells' c inv = rw (max-zero t, refusal-number c) (go (eqb (number_of_refusal c) 20))
    where
      go : (twenty : Bool) → Inv E L n s (pick twenty (record { area = w.area; held = none; cells = w.cells }) w) b t
      go true = dropped w b t inv
      go false = inv

  accepts :
      (w : World) (b : Book) (t : ℕ) (order : List ℕ) (lent : Lengths) (cells cells' : List ℕ) → Inv E L n s w b t →
      first_cause (recover_causes L n s (length cells) order w.area) ≡ none → length cells' ≡ length cells →
      IndexRule s (log_now w.area (record_from L n s (length cells) w.area)) cells' →
      RecoverGoal w b t order lent cells' (record { answer = (Ok tt); rec = record_from L n s (length cells) w.area })
  unfolding feed feed_call version_told HeldGood pick
  accepts w b t order lent cells cells' inv e same rule =
      rw (max-zero t, same)
      (rebuilt E L n s (length cells) w.area (record_from L n s (length cells) w.area) (some held') (without_pending b) t inv.bytes
      recovers' inv.agrees.next-same inv.agrees.map_same inv.agrees.own-among inv.agrees.slots-among inv.below holding')
    where
      recovers' : recovered L n s (length cells) w.area ≡ some (record_from L n s (length cells) w.area)
      recovers' =
          accepted-recovers L n s (length cells) order w.area
          (recovered-image L n s (base_cells w.cells) w.area (record_from L n s (base_cells w.cells) w.area) inv.base) e

      held' : Held
      held' = record { rec = record_from L n s (length cells) w.area; cells = cells'; work = [] }

      holding' : Holding E L n s w.area (some (length cells)) (without_pending b) held'
      holding' =
          record {
            slots_same = refl;
            size_same = refl;
            cells_same = refl;
            index-long = same;
            genuine = record { recovers = recovers'; rule = rule };
            phase = idle refl refl;
            switch = λ q. let z : ◌≡◌ {A = ℕ} 0 1 = cc in absurd (omega arith);
          }

  -- A recovery keeps the invariant.
  pub recover-keeps :
      (w : World) (b : Book) (t : ℕ) (order : List ℕ) (lent : Lengths) (cells cells' : List ℕ) (r : Recovery) →
      RecoverPromise L n s order w.area cells cells' r → Inv E L n s w b t → RecoverGoal w b t order lent cells' r
  unfolding recovery recovery_for IndexAfter
  recover-keeps w b t order lent cells cells' r p inv =
      subst⁻¹ (λ (x : Recovery). RecoverGoal w b t order lent cells' x) p.answers (go cause refl index')
    where
      rec : Record
      rec = record_from L n s (length cells) w.area

      cause : Option Refusal
      cause = first_cause (recover_causes L n s (length cells) order w.area)

      index' : IndexAfter w.area cells cells' (recovery_for cause rec) (recovery_for cause rec).answer
      index' = subst (λ (x : Recovery). IndexAfter w.area cells cells' x x.answer) p.answers p.index

      go : (c : Option Refusal) → cause ≡ c → IndexAfter w.area cells cells' (recovery_for c rec) (recovery_for c rec).answer → RecoverGoal w b t order lent cells' (recovery_for c rec)
      go none e i = accepts w b t order lent cells cells' inv e p.same_length i
      go (some c) e i = refused w b t order lent cells' c inv

  -- A cut leaves what the stores so far say.
  pub cut_keeps :
      (w : World) (b : Book) (t : ℕ) → Inv E L n s w b t →
      Inv E L n s (record { area = w.area; held = none; cells = w.cells }) (feed b cut) (max t (version_told cut))
  unfolding feed version_told HeldGood
  cut_keeps w b t inv =
      rw (max-zero t)
      (record {
        bytes = inv.bytes;
        base = inv.base;
        agrees =
            record {
              next-same = inv.agrees.next-same;
              map_same = inv.agrees.map_same;
              own-among = inv.agrees.own-among;
              slots-among = inv.agrees.slots-among;
            };
        below = inv.below;
        held = tt;
      })
