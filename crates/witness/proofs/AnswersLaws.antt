-- Every read, conversion, start and recovery can be made: for every input there is an answer that keeps the promise, as a total function.
-- What is proved of the definitions in `specs/Answers.antt`.
use Rattle.std.specs.Prelude.{ℕ, ◌≡◌, Bool, List, [], ◌∷◌, eqb, replicate, Ok}
use Rattle.std.proofs.Math.Path.{refl, ap}
use Rattle.std.proofs.Common.{sym, arith}
use Rattle.std.proofs.Math.Bool.{true, false}
use Rattle.std.proofs.Math.Option.{Option, none, some}
use Rattle.std.proofs.Math.ListN.{length, length-replicate}
use Rattle.segment.specs.Choice.{pick, is_none}
use Rattle.segment.specs.Layout.{Layout}
use Rattle.segment.specs.declared.Key.{Key}
use Rattle.record.specs.Answers.{taken, said_by, convert_said}
use Rattle.record.specs.RangeLaws.{between-low}
use Rattle.record.specs.Refusals.{number_of_refusal}
use Rattle.record.specs.Pairs.{join_said}
use Rattle.record.specs.Answered.{Recovery, RecoverAnswer}
use Rattle.record.specs.declared.Refusal.{Refusal}
use Rattle.record.specs.declared.Refusal.TheVariants.{NoPair}
use Rattle.record.specs.declared.Record.{Record}
use Rattle.record.specs.Switch.{switch_said}
use Rattle.model.specs.Switching.{switch_causes, switching, SwitchPromise}
use Rattle.record.specs.declared.Tables.{Tables}
use Rattle.model.specs.Log.{present}
use Rattle.model.specs.Causes.{first_cause, when}
use Rattle.model.specs.Operations.{Operation, log_now}
use Rattle.model.specs.Recovery.{image_layout, recovery, recovery_for, recover_causes, record_from}
use Rattle.model.specs.Refused.{Terms, reach_causes, read_causes, start_causes}
use Rattle.model.specs.Conversion.{convert_causes, convert_answer, ConvertPromise}
use Rattle.model.specs.Promises.{IndexAfter, RecoverPromise, read_answer, read_lengths, ReadPromise, value_answer, ValuePromise, Begun, begun, lent_lengths, StartPromise}
use Rattle.model.specs.Scanned.{image_log, scan_causes, ScanPromise, scanned_part, ScanValue}
use Rattle.laws.specs.CauseLaws.{first_some}
use Rattle.laws.specs.SaidLaws.{recover-says, read-says, read-settled, start-settled}
use Rattle.model.specs.Joining.{SlotPair, join_pair, join_early, join_causes, pair_answer, join_answer, pair_said, pair_said_by, JoinPromise}
use Rattle.laws.specs.RecoverLaws.{recovery-order, recovery-recovered, recovered-facts}
use Rattle.laws.specs.Starts.{begun-length, start-early, read-early}
use Rattle.index.specs.Build.{built}
use Rattle.index.specs.BuildLaws.{Holds}
use Rattle.stepping.proofs.CleanLaws.{recovered-built}
use Rattle.witness.specs.Answers.{cells_by, converted_by, filled_by, joined_by, part_by, read_by, recovered_cells, scan_by, started_by, switched_by}

module _ (L : Layout) (r : Record) (area cells : List ℕ) (t : Tables) (k : Key) where
  its-cause : (c : Refusal) → first_cause (reach_causes L r (read_lengths area cells) t k) ≡ some c →
      first_cause (read_causes L r (log_now area r) (read_lengths area cells) t k) ≡ some c
  its-cause c e = read-early L r (log_now area r) (read_lengths area cells) t k c e

  pub read_made : ReadPromise L r area cells t k (read_by L r area cells t k)
  unfolding read_answer
  read_made =
      record {
        hands-back = refl;
        early = λ c e. ap (λ (x : Option Refusal). read_answer x (present (log_now area r) k)) (its-cause c e);
        exact = λ g. refl;
        says =
            read-settled L r area cells t k _
            (λ c e. ap (λ (x : Option Refusal). read_answer x (present (log_now area r) k)) (its-cause c e)) (λ g. refl);
      }

  pub value_made : ValuePromise L r area cells t k (part_by L r area cells t k)
  unfolding value_answer
  value_made =
      record {
        early = λ c e. ap (λ (x : Option Refusal). value_answer r.size x (present (log_now area r) k)) (its-cause c e);
        exact = λ g. refl;
      }

pub switch-made : (L : Layout) (r : Record) → SwitchPromise L r (switched_by L r)
unfolding switching said_by
switch-made L r = record { answers = refl; says = said (first_cause (switch_causes L r)) }
  where
    said : (c : Option Refusal) → switch_said (switching c r).answer ≡ said_by c taken
    said none = refl
    said (some c) = refl

module _ (L : Layout) (n s : ℕ) (area : List ℕ) (t : Tables) (k : Key) where
  pub scan-made : ScanPromise L n s area t k (scan_by L n s area t k)
  scan-made =
      record { answers = refl; says = read-says L (first_cause (scan_causes L n s area t k)) (present (image_log n s area) k) }

  pub scan-value-made : ScanValue L n s area t k (scanned_part L n s area t k)
  scan-value-made = record { exact = refl }

pub convert-made : (n s : ℕ) (area target : List ℕ) → ConvertPromise n s area target (filled_by n s area target) (converted_by n s area target)
unfolding convert_answer said_by
convert-made n s area target = record { answers = refl; says = go (first_cause (convert_causes n s area (length target))); leaves = refl }
  where
    go : (c : Option Refusal) → convert_said (convert_answer c) ≡ said_by c taken
    go none = refl
    go (some c) = refl

module _ (L : Layout) (r : Record) (area cells : List ℕ) where
  abbrev pair : Option SlotPair
  pair = join_pair r (log_now area r)

  pair-cause : (c : Refusal) → first_cause (join_early L r (read_lengths area cells)) ≡ some c → first_cause (join_causes L r (read_lengths area cells) pair) ≡ some c
  pair-cause c e = first_some (join_early L r (read_lengths area cells)) (when (is_none pair) NoPair ∷ []) c e

  said : (c : Option Refusal) (p : Option SlotPair) → join_said (join_answer c p) ≡ pair_said_by c p
  unfolding join_answer pair_said_by pair_answer pair_said
  said none none = refl
  said none (some p) = refl
  said (some c) p = refl

  pub join-made : JoinPromise L r area cells (joined_by L r area cells)
  unfolding join_answer
  join-made =
      record {
        hands-back = refl;
        early = λ c e. ap (λ (x : Option Refusal). join_answer x pair) (pair-cause c e);
        exact = λ g. refl;
        says = λ s. said (first_cause (join_causes L r (read_lengths area cells) pair)) pair;
      }

module _ (L : Layout) (t : Terms) (o : Operation) (r : Record) (area cells work : List ℕ) where
  abbrev its : Begun
  its = started_by L t o r area cells work

  pub start-made : StartPromise L t o r area cells work its.work its.start
  unfolding begun
  start-made =
      record {
        same_length =
            begun-length L r (log_now area r) o work (first_cause (start_causes L r (log_now area r) (lent_lengths area cells work) t o));
        early = λ c e. ap (begun L r (log_now area r) o work) (start-early L r (log_now area r) (lent_lengths area cells work) t o c e);
        exact = λ g. refl;
        says =
            start-settled L t o r area cells work its.work its.start
            (λ c e. ap (begun L r (log_now area r) o work) (start-early L r (log_now area r) (lent_lengths area cells work) t o c e)) (λ g. refl);
      }

module _ (L : Layout) (n s : ℕ) (order area cells : List ℕ) (own : image_layout n s area ≡ L) where
  abbrev m : ℕ
  m = length cells

  abbrev rec : Record
  rec = record_from L n s m area

  abbrev cause : Option Refusal
  cause = first_cause (recover_causes L n s m order area)

  abbrev Keeps : Recovery → Type 0
  Keeps r = RecoverPromise L n s order area cells (recovered_cells L s order area cells r) r

  rebuilt : recovery L n s m order area ≡ record { answer = (Ok tt); rec = rec } →
      Holds s m (log_now area rec) (built area s rec.map order m)
  rebuilt e =
      let recovers = recovery-recovered L n s m area order rec own e in
      recovered-built L n s m area order rec recovers (recovery-order L n s m area order rec e)
      (omega (arith, between-low 16 4096 m (recovered-facts L n s m area rec recovers).lent.cells-good))

  by-cause : (c : Option Refusal) → cause ≡ c → Keeps (recovery_for c rec)
  unfolding recovery recovery_for cells_by IndexAfter pick
  by-cause none e =
      let h = rebuilt (ap (λ (c : Option Refusal). recovery_for c rec) e) in
      let answered = ap (λ (c : Option Refusal). recovery_for c rec) (sym e) in
      record { answers = answered; says = recover-says L n s m order area _ answered; same_length = h.long; index = h.rule }
  by-cause (some c) e =
      let answered = ap (λ (d : Option Refusal). recovery_for d rec) (sym e) in
      record {
        answers = answered;
        says = recover-says L n s m order area _ answered;
        same_length = go (eqb (number_of_refusal c) 20);
        index = refl;
      }
    where
      go : (t : Bool) → length (pick t (replicate m 0) cells) ≡ m
      go true = length-replicate m 0
      go false = refl

  pub recover-made : Keeps (recovery L n s m order area)
  unfolding recovery
  recover-made = by-cause cause refl
