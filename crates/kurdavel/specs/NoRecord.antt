-- Words that are no record, as the exported calls' contracts have it: every call answers 4, and nothing that is lent changes,
-- but that a value's place and length, and a store's place and byte, are told as 0. Format takes no record, and recovery takes words only to write them: there
-- only too few of them are refused.
use Rattle.std.specs.Prelude.{ℕ, ◌<◌, ◌≡◌, Bool, true, false, not, List, length, Err}
use Rattle.std.proofs.Common.{ap, ◌∙◌, arith}
use Rattle.std.proofs.Math.Path.{subst⁻¹}
use Rattle.std.proofs.Math.Option.{Option, some}
use Rattle.segment.specs.declared.Key.{Key}
use Rattle.record.specs.Answers.{Said, blank, taken, said_by, read_said, start_said, step_said, tell_said}
use Rattle.record.specs.Range.{fits_lent}
use Rattle.record.specs.RangeLaws.{blank-unfit}
use Rattle.record.specs.declared.Refusal.{Refusal}
use Rattle.record.specs.declared.Refusal.TheVariants.{BadRecord}
use Rattle.record.specs.Answered.{ReadAnswer, StartAnswer, Stepped, StepAnswer, TellAnswer}
use Rattle.record.specs.declared.Record.{Record}
use Rattle.model.specs.Operations.{Operation}
use Rattle.record.specs.declared.Tables.{Tables}
use Rattle.model.specs.Refused.{Terms}
use Rattle.laws.specs.Starts.{early-bad}
use Rattle.model.specs.Promises.{Begun, begun}
use Rattle.model.specs.Causes.{first_cause}
use Rattle.model.specs.Switching.{switch_causes}
use Rattle.laws.specs.CauseLaws.{cause-first}
use Rattle.words.specs.Words.{record_words, is_record, decoded}
use Rattle.words.proofs.WordLaws.{decoded-none}
use Rattle.words.specs.declared.Decoded.{Decoded}
use Rattle.kurdavel.specs.Crossing.{RecoverCrossed, ReadCrossed, ValueCrossed, stores_after, StartCrossed, kept_words, StepCrossed, left_told, told_after, place_told, byte_told, TellCrossed, SwitchCrossed}
use Rattle.kurdavel.specs.CrossingLaws.{none-range}

-- such words say the blank record, which fails the tests of 4 whatever is lent
not-ok : (words : List ℕ) → is_record words ≡ false → (decoded words).ok ≡ false
not-ok words f = ap (λ (d : Decoded). d.ok) (decoded-none words f)

unfit : (words : List ℕ) → is_record words ≡ false → (a i : ℕ) → not (fits_lent (decoded words).rec.edition (decoded words).rec a i) ≡ true
unfit words f a i =
    let says : (decoded words).rec ≡ blank = ap (λ (d : Decoded). d.rec) (decoded-none words f) in
    subst⁻¹ (λ (r : Record). not (fits_lent r.edition r a i) ≡ true) says (rw (blank-unfit _ a i))

-- and stay as they are
kept-none : (words words' : List ℕ) (r : Record) → is_record words ≡ false → words' ≡ kept_words (decoded words).ok words r → words' ≡ words
unfolding kept_words
kept-none words words' r f w = w ∙ ap (λ (ok : Bool). kept_words ok words r) (not-ok words f)

pub recover-too-few : {n s : ℕ} {order area cells cells' words words' : List ℕ} {number : ℕ} → length words < record_words
    → RecoverCrossed n s order area cells cells' words words' number → (number ≡ 4) × (cells' ≡ cells) × (words' ≡ words)
recover-too-few h x = let t = x.short h in (t.numbered, t.index_same, t.words_same)

pub read_none : {words area cells : List ℕ} {t : Tables} {k : Key} {version kind number : ℕ} → is_record words ≡ false
    → ReadCrossed words area cells t k version kind number → (number ≡ 4) × (version ≡ 0) × (kind ≡ 0)
read_none {words = words} f x =
    let e : x.reading.answer ≡ Err BadRecord = x.promised.early BadRecord (cause-first _ _ (unfit words f _ _)) in (
      x.numbered ∙ ap (λ (a : ReadAnswer). (read_said a).refused) e,
      x.version-told ∙ ap (λ (a : ReadAnswer). (read_said a).version) e,
      x.kind-told ∙ ap (λ (a : ReadAnswer). (read_said a).kind) e,
    )

pub value_none : {words area cells : List ℕ} {t : Tables} {k : Key} {place bytes number : ℕ} → is_record words ≡ false
    → ValueCrossed words area cells t k place bytes number → (number ≡ 4) × (place ≡ 0) × (bytes ≡ 0)
value_none {words = words} f x =
    let e : x.reading.answer ≡ Err BadRecord = x.promised.early BadRecord (cause-first _ _ (unfit words f _ _)) in
    let four = x.numbered ∙ ap (λ (a : ReadAnswer). (read_said a).refused) e in
    let empty = x.nowhere (λ zero. omega arith) in
    (four, empty.0, empty.1)

pub start_none : {t : Terms} {o : Operation} {words words' area cells work work' : List ℕ} {stores stores' number : ℕ} → is_record words ≡ false
    → StartCrossed t o words words' area cells work work' stores stores' number
    → (number ≡ 4) × (words' ≡ words) × (work' ≡ work) × (stores' ≡ stores)
unfolding begun stores_after
start_none {t} {o} {words} {words'} {stores = stores} f x =
    let b = x.promised.early BadRecord (early-bad (decoded words).rec.edition (decoded words).rec _ t o (unfit words f _ _)) in
    let e : x.start.answer ≡ Err BadRecord = ap (λ (y : Begun). y.start.answer) b in (
      x.handed.numbered ∙ ap (λ (a : StartAnswer). (start_said a).refused) e,
      kept-none words words' x.start.rec f x.handed.says,
      ap (λ (y : Begun). y.work) b,
      x.handed.told ∙ ap (λ (a : StartAnswer). stores_after a stores) e,
    )

pub step-none : {words words' area area' cells cells' work : List ℕ} {left left' version version' number : ℕ} → is_record words ≡ false
    → StepCrossed words words' area area' cells cells' work left left' version version' number
    → (number ≡ 4) × (words' ≡ words) × (area' ≡ area) × (cells' ≡ cells) × (left' ≡ left) × (version' ≡ version)
unfolding left_told told_after
step-none {words = words} {words' = words'} {left = left} {version = version} f x =
    let t = x.promised.refused BadRecord (cause-first _ _ (unfit words f _ _)) in
    let e : x.stepped.answer ≡ Err BadRecord = ap (λ (y : Stepped). y.answer) t.answers in (
      x.numbered ∙ ap (λ (a : StepAnswer). (step_said a).refused) e,
      kept-none words words' x.stepped.rec f x.says,
      t.area_same,
      t.index_same,
      x.left-told ∙ ap (λ (a : StepAnswer). left_told a left) e,
      x.version-told ∙ ap (λ (a : StepAnswer). told_after a version) e,
    )

pub switch-none : {words words' : List ℕ} {number : ℕ} → is_record words ≡ false → SwitchCrossed words words' number → (number ≡ 4) × (words' ≡ words)
unfolding said_by
switch-none {words} {words'} f x =
    let e : first_cause (switch_causes (decoded words).rec.edition (decoded words).rec) ≡ some BadRecord =
    cause-first _ _ (ap not (none-range words f)) in (
      x.numbered ∙ ap (λ (s : Said). s.refused) (x.promised.says ∙ ap (λ (c : Option Refusal). said_by c taken) e),
      kept-none words words' x.switching.rec f x.says,
    )

pub tell_none : {words area work : List ℕ} {place byte number : ℕ} → is_record words ≡ false → TellCrossed words area work place byte number
    → (number ≡ 4) × (place ≡ 0) × (byte ≡ 0)
unfolding place_told byte_told
tell_none {words = words} f x =
    let e : x.foretold.answer ≡ Err BadRecord = x.promised.refused BadRecord (cause-first _ _ (unfit words f _ _)) in (
      x.numbered ∙ ap (λ (a : TellAnswer). (tell_said a).refused) e,
      x.place-told ∙ ap place_told e,
      x.byte-told ∙ ap byte_told e,
    )
