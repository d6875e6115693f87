-- For every list of commands there is a run: a command is a call with its arguments, or a cut, and the answers are those of the
-- total functions.
-- What is proved of the definitions in `specs/Commands.antt`.
use Rattle.std.specs.Prelude.{ℕ, refl, length}
use mathlib.Core.List.{List, [], ◌∷◌, ◌++◌}
use Rattle.std.proofs.Math.Option.{Option, none, some}
use Rattle.model.specs.Recovery.{image_layout}
use Rattle.laws.specs.OperationsKept.{edition-laws}
use Rattle.telling.proofs.ToldLaws.{told-promise}
use Rattle.history.specs.Book.{Question, reads, reads_value, tells, fewest, scans, scans_value, converts, Event, joins}
use Rattle.history.specs.Runs.{Held, World, Asked, read, read_value, tell, least, scan, scan_value, convert, Moves, start, step, switch, ask, look, recover, cuts, Run, stop, go, join}
use Rattle.witness.specs.Answers.{fewest-made}
use Rattle.witness.proofs.AnswersLaws.{read_made, value_made, scan-made, scan-value-made, convert-made, start-made, recover-made, join-made, switch-made}
use Rattle.witness.proofs.Steps.{step-made}
use Rattle.witness.specs.Commands.{Command, Played, TypedQuestion, advance, answer_by, convert_into, glance, glance_value, lent_by, operate, play_all, play_on, played, power_cut, question, restart, switch_over, then}

-- ---- the run

module _ (n s : ℕ) where
  one : {w x : World} {e : Event} → Moves n s w e x → Run n s w (e ∷ []) x
  one m = go m stop

  run-append : {w x y : World} {es fs : List Event} → Run n s w es x → Run n s x fs y → Run n s w (es ++ fs) y
  run-append stop q = q
  run-append (go m p) q = go m (run-append p q)

  abbrev From : World → Played → Type 0
  From w p = Run n s w p.events p.world

  asked : (area : List ℕ) (m : Option ℕ) (h : Held) (q : Question) → TypedQuestion q →
      Asked (record { area = area; held = some h; cells = m }) q (lent_by h area q) (answer_by h area q)
  unfolding answer_by lent_by
  asked area m h (reads u k) t = read t (read_made h.rec.edition h.rec area h.cells u k)
  asked area m h (reads_value u k) t = read_value t (value_made h.rec.edition h.rec area h.cells u k)
  asked area m h tells t = tell (λ e. refl) (told-promise h.rec.edition (edition-laws h.rec.edition) h.rec area h.work refl)
  asked area m h fewest t = least (fewest-made h.rec.edition h.rec)
  asked area m h (scans k j u i) t = absurd t
  asked area m h (scans_value k j u i) t = absurd t
  asked area m h (converts k j) t = absurd t
  asked area m h joins t = join (join-made h.rec.edition h.rec area h.cells)

  played-run : (area : List ℕ) (m : Option ℕ) (held : Option Held) (c : Command) →
      let w : World = record { area = area; held = held; cells = m } in From w (played n s w held c)
  unfolding played
  played-run area m (some h) (operate q o t work) = one (start t (start-made h.rec.edition q o h.rec area h.cells work))
  played-run area m (some h) advance = one (step (λ e. refl) (step-made h.rec.edition h.rec area h.cells h.work))
  played-run area m (some h) switch_over = one (switch (switch-made h.rec.edition h.rec))
  played-run area m (some h) (question q t) = one (ask (asked area m h q t))
  played-run area m none (operate q o t work) = stop
  played-run area m none advance = stop
  played-run area m none switch_over = stop
  played-run area m none (question q t) = stop
  played-run area m (some h) (glance u k t) = one (look (scan t (scan-made (image_layout n s area) n s area u k)))
  played-run area m none (glance u k t) = one (look (scan t (scan-made (image_layout n s area) n s area u k)))
  played-run area m (some h) (glance_value u k t) = one (look (scan_value t (scan-value-made (image_layout n s area) n s area u k)))
  played-run area m none (glance_value u k t) = one (look (scan_value t (scan-value-made (image_layout n s area) n s area u k)))
  played-run area m (some h) (convert_into target) = one (look (convert (convert-made n s area target)))
  played-run area m none (convert_into target) = one (look (convert (convert-made n s area target)))
  played-run area m (some h) (restart order cells) = one (recover (recover-made (image_layout n s area) n s order area cells refl))
  played-run area m none (restart order cells) = one (recover (recover-made (image_layout n s area) n s order area cells refl))
  played-run area m (some h) power_cut = one cuts
  played-run area m none power_cut = one cuts

  on-run : (w : World) (p : Played) (cs : List Command) → From w p → From w (play_on n s p cs)
  unfolding play_on
  on-run w p [] r = r
  on-run w p (c ∷ cs) r =
      on-run w (then p (played n s p.world p.world.held c)) cs
      (run-append r (played-run p.world.area p.world.cells p.world.held c))

  -- Whatever the world and the commands, the contracts allow what the total functions answer.
  pub commands-run : (w : World) (cs : List Command) → From w (play_all n s w cs)
  commands-run w cs = on-run w (record { events = []; world = w }) cs stop
