-- One law for each exported call: its contract is a transition of the runs.
use Rattle.std.specs.Prelude.{Ok, Err}
use Prim.Native.Nat.{ℕ, ◌≤◌}
use mathlib.Core.Path.{◌≡◌, refl, sym, ap, ap₂, ◌∙◌, subst}
use mathlib.Core.Bool.{Bool, true, false, not}
use mathlib.Core.List.{List, [], ◌∷◌, ◌++◌}
use mathlib.Core.Option.{Option, none, some}
use lib.Dec.{eqb}
use lib.ListN.{length, take, drop}
use Rattle.segment.specs.Choice.{pick}
use Rattle.segment.proofs.Choice.{pick-false}
use Rattle.segment.specs.declared.Key.{Key}
use Rattle.record.specs.Answers.{Said, refusal, taken, taken_with, recover_said, read_said, start_said, step_said, tell_said, fewest_said, convert_said}
use Rattle.record.specs.Range.{fits_lent, in_range}
use Rattle.record.specs.RangeLaws.{blank-unfit, blank-out}
use Rattle.record.specs.Switch.{switch_said}
use Rattle.record.specs.Refusals.{number_of_refusal}
use Rattle.record.specs.declared.Record.{Record}
use Rattle.record.specs.Answered.{ReadAnswer, ConvertAnswer, RecoverAnswer, StartAnswer, Stepped, StepAnswer, FewestAnswer, SwitchAnswer, Switching, TellAnswer}
use Rattle.record.specs.declared.Progress.{Progress}
use Rattle.record.specs.declared.Refusal.{Refusal}
use Rattle.record.specs.declared.Refusal.TheVariants.{BadRecord}
use Rattle.model.proofs.Arguments.{typed-key, typed-write, typed-delete, typed-clean}
use Rattle.model.specs.Operations.{Operation, write, delete, clean, Typed}
use Rattle.record.specs.declared.Tables.{Tables}
use Rattle.model.specs.Fewest.{no_lengths}
use Rattle.model.specs.Switching.{switching}
use Rattle.model.specs.Refused.{Terms, is_pending}
use Rattle.laws.specs.Starts.{early-bad}
use Rattle.model.specs.Promises.{Begun, begun, read_lengths, lent_lengths, tell_lengths}
use Rattle.record.specs.Pairs.{PairSaid, join_said}
use Rattle.laws.specs.CauseLaws.{cause-first, refusal-number}
use Rattle.words.specs.Words.{record_words, is_record, decoded}
use Rattle.words.proofs.WordLaws.{record-long, decoded-record, decoded-none, decode-encode}
use Rattle.words.specs.declared.Decoded.{Decoded}
use Rattle.history.specs.Book.{reads, reads_value, tells, fewest, starts, steps, switches, asks, recovers, Answer, saying, giving, telling, naming, Event, called, scans, scans_value, converts, joins, pairing}
use Rattle.history.specs.Runs as Store
use Rattle.history.specs.Runs.{World, recovered_world, Run}
use Rattle.kurdavel.specs.Crossing.{kept_words, words_after, RecoverCrossed, ReadCrossed, ValueCrossed, stores_after, StartCrossed, left_told, told_after, StepCrossed, place_told, byte_told, TellCrossed, FewestCrossed, ScanCrossed, ScanValueCrossed, ConvertCrossed, SwitchCrossed}
use Rattle.kurdavel.specs.Crossing as Crossing
use Rattle.exported.specs.Runs.{HeldWords, Memory, held_by, world_of, KeyArgument, Arguments, number_said, step_told, read_told, store_told, slot_told, recovered_memory, Exports, start, step, read, read_value, tell, least, recover, short, cuts, ExportedRun, stop, go, scan, scan_value, convert, join, switch}
use Rattle.kurdavel.specs.Joining.{JoinCrossed}

-- ---- arguments: whatever has its C type is typed

pub arguments-typed : (o : Operation) → Arguments o → Typed o
arguments-typed (write k value) p = typed-write k p.0.0 p.0.1 value p.1
arguments-typed (delete k) p = typed-delete k p.0 p.1
arguments-typed (clean victims) p = typed-clean victims p

-- ---- answers: what a number and the told values say is what the answer says

taken-said : (number : ℕ) (values : Said) → number ≡ 0 → values ≡ number_said number values
unfolding pick
taken-said number values e = ap (λ (x : ℕ). number_said x values) (sym e)

refused-said : (c : Refusal) (number : ℕ) (values : Said) → number ≡ number_of_refusal c → refusal (number_of_refusal c) ≡ number_said number values
refused-said c number values e =
    sym (pick-false (eqb (number_of_refusal c) 0) values (refusal (number_of_refusal c)) (refusal-number c)) ∙
    ap (λ (x : ℕ). number_said x values) (sym e)

start-said :
    (a : StartAnswer) (stores stores' number : ℕ) → number ≡ (start_said a).refused → stores' ≡ stores_after a stores →
    start_said a ≡ number_said number (taken_with stores')
unfolding stores_after
start-said (Ok k) stores stores' number e f = ap taken_with (sym f) ∙ taken-said number (taken_with stores') e
start-said (Err c) stores stores' number e f = refused-said c number (taken_with stores') e

step-said :
    (a : StepAnswer) (left left' version version' number : ℕ) → number ≡ (step_said a).refused → left' ≡ left_told a left →
    version' ≡ told_after a version → step_said a ≡ number_said number (step_told left' version')
unfolding left_told told_after
step-said (Ok (Progress.Left k)) left left' version version' number e f g =
    ap₂ step_told (sym f) (sym g) ∙ taken-said number (step_told left' version') e
step-said (Ok (Progress.Done v)) left left' version version' number e f g =
    ap₂ step_told (sym f) (sym g) ∙ taken-said number (step_told left' version') e
step-said (Err c) left left' version version' number e f g = refused-said c number (step_told left' version') e

pub read-said :
    (a : ReadAnswer) (version kind number : ℕ) → number ≡ (read_said a).refused → version ≡ (read_said a).version → kind ≡ (read_said a).kind →
    read_said a ≡ read_told number version kind
read-said a version kind number e f g = no_stores a ∙ (λ i. read_told (sym e i) (sym f i) (sym g i))
  where
    no_stores : (a : ReadAnswer) → read_said a ≡ read_told (read_said a).refused (read_said a).version (read_said a).kind
    no_stores (Ok s) = refl
    no_stores (Err c) = refl

store_told_lem :
    (a : TellAnswer) (place byte number : ℕ) → number ≡ (tell_said a).refused → place ≡ place_told a → byte ≡ byte_told a →
    telling a ≡ store_told number place byte
unfolding place_told byte_told pick
store_told_lem (Ok s) place byte number e f g = λ i. store_told (sym e i) (sym f i) (sym g i)
store_told_lem (Err c) place byte number e f g =
    sym (pick-false (eqb (number_of_refusal c) 0) (record { said = taken; value = byte ∷ []; place = place }) (saying (refusal (number_of_refusal c))) (refusal-number c)) ∙
    ap (λ (k : ℕ). store_told k place byte) (sym e)

slot-told :
    (a : FewestAnswer) (slot number : ℕ) → number ≡ (fewest_said a).refused → slot ≡ Crossing.slot_told a → naming a ≡ slot_told number slot
unfolding Crossing.slot_told pick
slot-told (Ok i) slot number e f = λ j. slot_told (sym e j) (sym f j)
slot-told (Err c) slot number e f =
    sym (pick-false (eqb (number_of_refusal c) 0) (record { said = taken; value = slot ∷ []; place = 0 }) (saying (refusal (number_of_refusal c))) (refusal-number c)) ∙
    ap (λ (k : ℕ). slot_told k slot) (sym e)

switch-said : (a : SwitchAnswer) (number : ℕ) → number ≡ (switch_said a).refused → switch_said a ≡ number_said number taken
switch-said (Ok u) number e = taken-said number taken e
switch-said (Err c) number e = refused-said c number taken e

convert_said_lem : (a : ConvertAnswer) (number : ℕ) → number ≡ (convert_said a).refused → convert_said a ≡ number_said number taken
convert_said_lem (Ok u) number e = taken-said number taken e
convert_said_lem (Err c) number e = refused-said c number taken e

recover-said : (a : RecoverAnswer) (number : ℕ) → number ≡ (recover_said a).refused → recover_said a ≡ number_said number taken
recover-said (Ok u) number e = taken-said number taken e
recover-said (Err c) number e = refused-said c number taken e

-- ---- words: what is handed back is what they say afterwards

by-record :
    (words : List ℕ) (T : Type 0) → (is_record words ≡ true → (decoded words).ok ≡ true → T) →
    (is_record words ≡ false → (decoded words).ok ≡ false → T) → T
by-record words T yes-case no-case = go (is_record words) refl
  where
    go : (t : Bool) → is_record words ≡ t → T
    go true e = yes-case e (ap (λ (d : Decoded). d.ok) (decoded-record words e))
    go false e = no-case e (ap (λ (d : Decoded). d.ok) (decoded-none words e))

-- words that are no record say the blank one, which every call refuses with 4
none-unfit : (words : List ℕ) → is_record words ≡ false → (a i : ℕ) → not (fits_lent (decoded words).rec.edition (decoded words).rec a i) ≡ true
none-unfit words e a i =
    ap (λ (d : Decoded). not (fits_lent d.rec.edition d.rec a i)) (decoded-none words e) ∙ ap not (blank-unfit _ a i)

-- which the switch refuses by its range alone
none_out : (words : List ℕ) → is_record words ≡ false → not (in_range (decoded words).rec.edition (decoded words).rec) ≡ true
none_out words e = ap (λ (d : Decoded). not (in_range d.rec.edition d.rec)) (decoded-none words e) ∙ ap not (blank-out _)

pub words-say :
    (words words' : List ℕ) (r : Record) → words' ≡ kept_words (decoded words).ok words r → ((decoded words).ok ≡ true → length r.counts ≡ 32) →
    (is_record words ≡ false → r ≡ (decoded words).rec) → (decoded words').rec ≡ r
unfolding kept_words
words-say words words' r w long same =
    by-record words ((decoded words').rec ≡ r)
    (λ e ok.
    ap (λ (l : List ℕ). (decoded l).rec) (w ∙ ap (λ (t : Bool). kept_words t words r) ok) ∙
    ap (λ (d : Decoded). d.rec) (decode-encode r words (long ok) (record-long words e)))
    (λ e ok. ap (λ (l : List ℕ). (decoded l).rec) (w ∙ ap (λ (t : Bool). kept_words t words r) ok) ∙ sym (same e))

-- ---- the calls

module _ (n s : ℕ) where
  -- one event of the store, with its answer and the world after it written in another way
  abbrev Runs : World → List Event → World → Type 0
  Runs w es x = Run n s w es x

  start-runs :
      (area work work' words' : List ℕ) (h : HeldWords) (m : Option ℕ) (t : Terms) (o : Operation) (stores stores' number : ℕ) → Arguments o →
      StartCrossed t o h.words words' area h.cells work work' stores stores' number →
      Runs (world_of (record { area = area; held = some h; cells = m }))
      (called (starts t o) (lent_lengths area h.cells work) (saying (number_said number (taken_with stores'))) ∷ [])
      (world_of (record { area = area; held = some (record { words = words'; cells = h.cells; work = pick (eqb number 0) work' h.work }); cells = m }))
  unfolding begun
  start-runs area work work' words' h m t o stores stores' number p c =
      subst
      (λ (x : World).
      Runs (world_of (record { area = area; held = some h; cells = m }))
      (called (starts t o) (lent_lengths area h.cells work) (saying (number_said number (taken_with stores'))) ∷ []) x)
      (λ i.
      record {
        area = area;
        held = some (record { rec = sym says i; cells = h.cells; work = pick (eqb (sym c.handed.numbered i) 0) work' h.work });
        cells = m;
      })
      (subst
      (λ (a : Said).
      Runs (world_of (record { area = area; held = some h; cells = m }))
      (called (starts t o) (lent_lengths area h.cells work) (saying a) ∷ [])
      (record { area = area; held = some (Store.held_after (held_by h) work' c.start); cells = m }))
      (start-said c.start.answer stores stores' number c.handed.numbered c.handed.told)
      (Store.go (Store.start {h = held_by h} (arguments-typed o p) c.promised) Store.stop))
    where
      says : (decoded words').rec ≡ c.start.rec
      says =
          words-say h.words words' c.start.rec c.handed.says c.handed.long
          (λ e. ap (λ (b : Begun). b.start.rec) (c.promised.early BadRecord (early-bad _ (decoded h.words).rec _ t o (none-unfit h.words e _ _))))

  step-runs :
      (area area' cells' work words' : List ℕ) (h : HeldWords) (m : Option ℕ) (left left' version version' number : ℕ) →
      (is_pending (decoded h.words).rec.pending ≡ true → work ≡ h.work) →
      StepCrossed h.words words' area area' h.cells cells' work left left' version version' number →
      Runs (world_of (record { area = area; held = some h; cells = m }))
      (called steps (lent_lengths area h.cells work) (saying (number_said number (step_told left' version'))) ∷ [])
      (world_of (record { area = area'; held = some (record { words = words'; cells = cells'; work = h.work }); cells = m }))
  step-runs area area' cells' work words' h m left left' version version' number own c =
      subst
      (λ (r : Record).
      Runs (world_of (record { area = area; held = some h; cells = m }))
      (called steps (lent_lengths area h.cells work) (saying (number_said number (step_told left' version'))) ∷ [])
      (record { area = area'; held = some (record { rec = r; cells = cells'; work = h.work }); cells = m }))
      (sym says)
      (subst
      (λ (a : Said).
      Runs (world_of (record { area = area; held = some h; cells = m })) (called steps (lent_lengths area h.cells work) (saying a) ∷ [])
      (record { area = area'; held = some (record { rec = c.stepped.rec; cells = cells'; work = h.work }); cells = m }))
      (step-said c.stepped.answer left left' version version' number c.numbered c.left-told c.version-told)
      (Store.go (Store.step {h = held_by h} own c.promised) Store.stop))
    where
      says : (decoded words').rec ≡ c.stepped.rec
      says =
          words-say h.words words' c.stepped.rec c.says c.long
          (λ e. ap (λ (a : Stepped). a.rec) (c.promised.refused BadRecord (cause-first _ _ (none-unfit h.words e _ _))).answers)

  switch-runs :
      (area words' : List ℕ) (h : HeldWords) (m : Option ℕ) (number : ℕ) → SwitchCrossed h.words words' number →
      Runs (world_of (record { area = area; held = some h; cells = m })) (called switches no_lengths (saying (number_said number taken)) ∷ [])
      (world_of (record { area = area; held = some (record { words = words'; cells = h.cells; work = h.work }); cells = m }))
  unfolding switching
  switch-runs area words' h m number c =
      subst
      (λ (r : Record).
      Runs (world_of (record { area = area; held = some h; cells = m })) (called switches no_lengths (saying (number_said number taken)) ∷ [])
      (record { area = area; held = some (record { rec = r; cells = h.cells; work = h.work }); cells = m }))
      (sym says)
      (subst
      (λ (a : Said).
      Runs (world_of (record { area = area; held = some h; cells = m })) (called switches no_lengths (saying a) ∷ [])
      (record { area = area; held = some (record { rec = c.switching.rec; cells = h.cells; work = h.work }); cells = m }))
      (switch-said c.switching.answer number c.numbered)
      (Store.go (Store.switch {h = held_by h} c.promised) Store.stop))
    where
      says : (decoded words').rec ≡ c.switching.rec
      says =
          words-say h.words words' c.switching.rec c.says c.long
          (λ e.
          ap (λ (a : Switching). a.rec)
          (c.promised.answers ∙ ap (λ (x : Option Refusal). switching x (decoded h.words).rec) (cause-first _ _ (none_out h.words e))))

  read-runs :
      (area : List ℕ) (h : HeldWords) (m : Option ℕ) (v : Tables) (k : Key) (version kind number : ℕ) → KeyArgument k →
      ReadCrossed h.words area h.cells v k version kind number →
      Runs (world_of (record { area = area; held = some h; cells = m }))
      (called (asks (reads v k)) (read_lengths area h.cells) (saying (read_told number version kind)) ∷ [])
      (world_of (record { area = area; held = some h; cells = m }))
  read-runs area h m v k version kind number p c =
      subst
      (λ (a : Said).
      Runs (world_of (record { area = area; held = some h; cells = m })) (called (asks (reads v k)) (read_lengths area h.cells) (saying a) ∷ [])
      (world_of (record { area = area; held = some h; cells = m })))
      (read-said c.reading.answer version kind number c.numbered c.version-told c.kind-told)
      (Store.go (Store.ask (Store.read {h = held_by h} (typed-key k p.0 p.1) c.promised)) Store.stop)

  value-runs :
      (area : List ℕ) (h : HeldWords) (m : Option ℕ) (v : Tables) (k : Key) (place bytes number : ℕ) → KeyArgument k →
      (c : ValueCrossed h.words area h.cells v k place bytes number) →
      Runs (world_of (record { area = area; held = some h; cells = m }))
      (called (asks (reads v k)) (read_lengths area h.cells) (saying (read_said c.reading.answer))
      ∷ called (asks (reads_value v k)) (read_lengths area h.cells) (giving (take bytes (drop place area)))
      ∷ [])
      (world_of (record { area = area; held = some h; cells = m }))
  value-runs area h m v k place bytes number p c =
      let typed = typed-key k p.0 p.1 in
      Store.go (Store.ask (Store.read {h = held_by h} typed c.promised))
      (Store.go (Store.ask (Store.read_value {h = held_by h} typed c.value)) Store.stop)

  tell-runs :
      (area work : List ℕ) (h : HeldWords) (m : Option ℕ) (place byte number : ℕ) →
      (is_pending (decoded h.words).rec.pending ≡ true → work ≡ h.work) → TellCrossed h.words area work place byte number →
      Runs (world_of (record { area = area; held = some h; cells = m }))
      (called (asks tells) (tell_lengths area work) (store_told number place byte) ∷ []) (world_of (record { area = area; held = some h; cells = m }))
  tell-runs area work h m place byte number own c =
      subst
      (λ (a : Answer).
      Runs (world_of (record { area = area; held = some h; cells = m })) (called (asks tells) (tell_lengths area work) a ∷ [])
      (world_of (record { area = area; held = some h; cells = m })))
      (store_told_lem c.foretold.answer place byte number c.numbered c.place-told c.byte-told)
      (Store.go (Store.ask (Store.tell {h = held_by h} own c.promised)) Store.stop)

  fewest-runs :
      (area : List ℕ) (h : HeldWords) (m : Option ℕ) (slot number : ℕ) → FewestCrossed h.words slot number →
      Runs (world_of (record { area = area; held = some h; cells = m })) (called (asks fewest) no_lengths (slot_told number slot) ∷ [])
      (world_of (record { area = area; held = some h; cells = m }))
  fewest-runs area h m slot number c =
      subst
      (λ (a : Answer).
      Runs (world_of (record { area = area; held = some h; cells = m })) (called (asks fewest) no_lengths a ∷ [])
      (world_of (record { area = area; held = some h; cells = m })))
      (slot-told c.fewest.answer slot number c.numbered c.slot-told)
      (Store.go (Store.ask (Store.least {h = held_by h} c.promised)) Store.stop)

  scan_runs :
      (m : Memory) (v : Tables) (k : Key) (version kind number : ℕ) → KeyArgument k → ScanCrossed n s m.area v k version kind number →
      Runs (world_of m) (called (asks (scans n s v k)) (read_lengths m.area []) (saying (read_told number version kind)) ∷ []) (world_of m)
  scan_runs m v k version kind number p c =
      subst (λ (a : Said). Runs (world_of m) (called (asks (scans n s v k)) (read_lengths m.area []) (saying a) ∷ []) (world_of m))
      (read-said c.answer version kind number c.numbered c.version-told c.kind-told)
      (Store.go (Store.look {w = world_of m} (Store.scan (typed-key k p.0 p.1) c.promised)) Store.stop)

  scan-value-runs :
      (m : Memory) (v : Tables) (k : Key) (place bytes number : ℕ) → KeyArgument k → (c : ScanValueCrossed n s m.area v k place bytes number) →
      Runs (world_of m)
      (called (asks (scans n s v k)) (read_lengths m.area []) (saying (read_said c.answer))
      ∷ called (asks (scans_value n s v k)) (read_lengths m.area []) (giving (take bytes (drop place m.area)))
      ∷ [])
      (world_of m)
  scan-value-runs m v k place bytes number p c =
      let typed = typed-key k p.0 p.1 in
      Store.go (Store.look {w = world_of m} (Store.scan typed c.promised))
      (Store.go (Store.look {w = world_of m} (Store.scan_value typed c.value)) Store.stop)

  convert-runs :
      (m : Memory) (target target' : List ℕ) (number : ℕ) → ConvertCrossed n s m.area target target' number →
      Runs (world_of m)
      (called (asks (converts n s)) (record { area = length m.area; index = 0; work = length target }) (saying (number_said number taken)) ∷ [])
      (world_of m)
  convert-runs m target target' number c =
      subst
      (λ (a : Said).
      Runs (world_of m) (called (asks (converts n s)) (record { area = length m.area; index = 0; work = length target }) (saying a) ∷ [])
      (world_of m)) (convert_said_lem c.answer number c.numbered)
      (Store.go (Store.look {w = world_of m} (Store.convert c.promised)) Store.stop)

  join_runs :
      (area : List ℕ) (h : HeldWords) (m : Option ℕ) (first second number : ℕ) → JoinCrossed h.words area h.cells first second number →
      Runs (world_of (record { area = area; held = some h; cells = m }))
      (called (asks joins) (read_lengths area h.cells) (pairing (record { refused = number; first = first; second = second })) ∷ [])
      (world_of (record { area = area; held = some h; cells = m }))
  join_runs area h m first second number c =
      subst
      (λ (p : PairSaid).
      Runs (world_of (record { area = area; held = some h; cells = m })) (called (asks joins) (read_lengths area h.cells) (pairing p) ∷ [])
      (world_of (record { area = area; held = some h; cells = m })))
      said (Store.go (Store.ask (Store.join {h = held_by h} c.promised)) Store.stop)
    where
      said : join_said c.joined.answer ≡ record { refused = number; first = first; second = second }
      said = λ i. record { refused = sym c.numbered i; first = sym c.first-told i; second = sym c.second-told i }

  -- ---- recovery

  module _ (m : Memory) (cells' words words' : List ℕ) (rec : Record) (number : ℕ) (long : record_words ≤ length words) where
    world-after :
        (a : RecoverAnswer) → number ≡ (recover_said a).refused → words' ≡ words_after a words rec →
        (a ≡ (Ok tt) → length rec.counts ≡ 32) → recovered_world (world_of m) cells' (record { answer = a; rec = rec }) ≡ world_of (recovered_memory m cells' words' number)
    unfolding pick words_after
    world-after (Ok u) e w full =
        (λ i. record { area = m.area; held = some (record { rec = sym says i; cells = cells'; work = [] }); cells = some (length cells') }) ∙
        ap (λ (x : ℕ). world_of (recovered_memory m cells' words' x)) (sym e)
      where
        says : (decoded words').rec ≡ rec
        says = ap (λ (l : List ℕ). (decoded l).rec) w ∙ ap (λ (d : Decoded). d.rec) (decode-encode rec words (full refl) long)
    world-after (Err c) e w full =
        rw (refusal-number c) (by-twenty (eqb (number_of_refusal c) 20)) ∙ ap (λ (x : ℕ). world_of (recovered_memory m cells' words' x)) (sym e)
      where
        by-twenty :
            (t : Bool) →
            pick t (record { area = m.area; held = none; cells = m.cells }) (world_of m) ≡
            world_of (pick t (record { area = m.area; held = none; cells = m.cells }) m)
        by-twenty true = refl
        by-twenty false = refl

  recover-runs :
      (m : Memory) (order cells cells' words words' : List ℕ) (number : ℕ) → record_words ≤ length words →
      RecoverCrossed n s order m.area cells cells' words words' number →
      Runs (world_of m) (called (recovers n s order) (read_lengths m.area cells) (saying (number_said number taken)) ∷ [])
      (world_of (recovered_memory m cells' words' number))
  recover-runs m order cells cells' words words' number long c =
      let r = c.recovers long in
      subst
      (λ (x : World). Runs (world_of m) (called (recovers n s order) (read_lengths m.area cells) (saying (number_said number taken)) ∷ []) x)
      (world-after m cells' words words' r.recovery.rec number long r.recovery.answer r.numbered r.says r.long)
      (subst
      (λ (a : Said).
      Runs (world_of m) (called (recovers n s order) (read_lengths m.area cells) (saying a) ∷ []) (recovered_world (world_of m) cells' r.recovery))
      (recover-said r.recovery.answer number r.numbered)
      (Store.go (Store.recover r.promised) Store.stop))

  -- ---- together

  pub exports-run : {m x : Memory} {es : List Event} → Exports n s m es x → Runs (world_of m) es (world_of x)
  exports-run (start {area} {work} {work'} {words'} {h} {m} {t} {o} {stores} {stores'} {number} p c) =
      start-runs area work work' words' h m t o stores stores' number p c
  exports-run (step {area} {area'} {cells'} {work} {words'} {h} {m} {left} {left'} {version} {version'} {number} own c) =
      step-runs area area' cells' work words' h m left left' version version' number own c
  exports-run (switch {area} {words'} {h} {m} {number} c) = switch-runs area words' h m number c
  exports-run (read {area} {h} {m} {v} {k} {version} {kind} {number} p c) =
      read-runs area h m v k version kind number p c
  exports-run (read_value {area} {h} {m} {v} {k} {place} {bytes} {number} p c) = value-runs area h m v k place bytes number p c
  exports-run (tell {area} {work} {h} {m} {place} {byte} {number} own c) = tell-runs area work h m place byte number own c
  exports-run (least {area} {h} {m} {slot} {number} c) = fewest-runs area h m slot number c
  exports-run (scan {m} {v} {k} {version} {kind} {number} p c) = scan_runs m v k version kind number p c
  exports-run (scan_value {m} {v} {k} {place} {bytes} {number} p c) = scan-value-runs m v k place bytes number p c
  exports-run (convert {m} {target} {target'} {number} c) = convert-runs m target target' number c
  exports-run (join {area} {h} {m} {first} {second} {number} c) = join_runs area h m first second number c
  exports-run (recover {m} {order} {cells} {cells'} {words} {words'} {number} long c) =
      recover-runs m order cells cells' words words' number long c
  exports-run (short less c) = Store.stop
  exports-run cuts = Store.go Store.cuts Store.stop

  run-append : {w x y : World} {es fs : List Event} → Runs w es x → Runs x fs y → Runs w (es ++ fs) y
  run-append Store.stop q = q
  run-append (Store.go m p) q = Store.go m (run-append p q)

  -- A run of exported calls is a run of the store.
  pub exported-run : {m x : Memory} {es : List Event} → ExportedRun n s m es x → Runs (world_of m) es (world_of x)
  exported-run stop = Store.stop
  exported-run (go e r) = run-append (exports-run e) (exported-run r)
