-- Laws of the loops that play a letter, a history and all histories.
-- What is proved of the definitions in `specs/PlayLaws.antt`.
use Prim.Native.Nat.{ℕ, zero, suc, ◌+◌, ◌-◌, ◌^◌, ◌≤◌, ◌<◌}
use Rattle.std.proofs.Math.Path.{◌≡◌, refl, ap}
use Rattle.std.proofs.Common.{sym, ◌∙◌, subst, lit<}
use Rattle.std.specs.Prelude.{Bool, Ok, Err}
use Rattle.std.proofs.Math.Bool.{true, false}
use mathlib.Core.List.{List, [], ◌∷◌, ◌++◌}
use Rattle.std.proofs.Math.Option.{Option, none, some}
use native.Mathlib.Omega.{arith}
use lib.ListN.{length, take, replicate}
use Rattle.word.specs.Number.{Bytes}
use Rattle.segment.specs.Choice.{pick, both, either, is_none}
use Rattle.segment.specs.Layout.{edition1, layout_numbered}
use Rattle.record.specs.RangeLaws.{lent}
use Rattle.segment.specs.declared.Key.{Key}
use Rattle.record.specs.Range.{between, cells_good}
use Rattle.record.specs.Reach.{all_tables}
use Rattle.record.specs.Answered.{FormatAnswer, Recovery, Start}
use Rattle.record.specs.declared.Record.{Record}
use Rattle.record.specs.declared.Tables.{Tables}
use Rattle.record.specs.declared.Refusal.{Refusal}
use Rattle.model.specs.Operations.{Operation, write, delete, clean, Typed, stored, formatted, formatted_as}
use Rattle.model.specs.Causes.{first_cause}
use Rattle.model.specs.Recovery.{image_layout, recovered, recovery, record_from, geometry_bad}
use Rattle.model.specs.Refused.{Terms, freely, reaching}
use Rattle.model.specs.Promises.{FormatPromise, area_unless, RecoverPromise, StartPromise}
use Rattle.laws.specs.ConvertedSlots.{bytes-zeros}
use Rattle.laws.specs.OperationsKept.{edition-laws}
use Rattle.laws.specs.RecoverLaws.{recovered-recovery}
use Rattle.laws.specs.Operated.{plan_at}
use Rattle.histories.specs.declared.Letter.{Letter}
use Rattle.histories.specs.declared.Letter.TheVariants.{WriteA, WriteB, DeleteA, DeleteB, CleanAll}
use Rattle.histories.specs.declared.book.Book.{Book}
use Rattle.histories.specs.Letters.{Word}
use Rattle.histories.specs.Book.{first_key, second_key, finished, fresh_book}
use Rattle.rig_model.specs.Verdict.{wrong_at, operation_at, cause_at, cuts_wrong, refuses, record_at, word_wrong, history_wrong, first_wrong}
use Rattle.rig_model.specs.RunLaws.{Ready, Ended, Under}
use Rattle.rig_model.proofs.RunLaws.{at-image, ready-record, start-refused, start-stores, start_under}
use Rattle.history.proofs.Invariant.{slots-of}
use Rattle.rig_model.proofs.CheckLaws.{fits, recovered-ready, order-up}
use Rattle.rig_model.specs.PlayLaws.{Plays, fresh_area}

-- ---- the operation of a letter is one of its types

eight-bytes : (place : ℕ) → place < 256 → Bytes (replicate 8 place)
eight-bytes place h i = go 8 i
  where
    go : (n i : ℕ) → lib.ListN.get_or (replicate n place) i 0 < 256
    go zero i = omega arith
    go (suc n) zero = h
    go (suc n) (suc i) = go n i

pub typed_at : (l : Letter) (place : ℕ) (area : List ℕ) (r : Record) (cells : List ℕ) → place < 256 → Ready area r cells → Typed (operation_at l place r)
unfolding operation_at
typed_at WriteA place area r cells h y = ((lit< tt, lit< tt), eight-bytes place h)
typed_at WriteB place area r cells h y = ((lit< tt, lit< tt), eight-bytes place h)
typed_at DeleteA place area r cells h y = (lit< tt, lit< tt)
typed_at DeleteB place area r cells h y = (lit< tt, lit< tt)
typed_at CleanAll place area r cells h y =
    let below : r.map < 2 ^ r.slots = (lent r.edition r (length area) (length cells) (fits area r cells y)).map_below in
    let few : r.map < 16 = subst (λ (x : ℕ). r.map < 2 ^ x) (slots-of r.edition 4 256 16 area r y.recovers) below in
    omega arith

module _ (from_log : Bool) (l : Letter) (place : ℕ) (area : List ℕ) (b : Book) (r : Record) (cells : List ℕ) (y : Ready area r cells) where
  abbrev o : Operation
  o = operation_at l place r

  abbrev n : ℕ
  n = length (plan_at r.edition area r o)

  own-record : record_at area ≡ r
  own-record = sym (ready-record area r cells y)

  from-letter : (w : Word) → word_wrong from_log (l ∷ w) place area b
      ≡ pick (refuses (cause_at area r o)) (word_wrong from_log w (place + 1) area b)
      (either (cuts_wrong from_log area r o b 0 n) (word_wrong from_log w (place + 1) (stored area (plan_at r.edition area r o)) (finished b l place)))
  unfolding word_wrong
  from-letter w =
      ap (λ (x : Record).
      pick (refuses (cause_at area x (operation_at l place x))) (word_wrong from_log w (place + 1) area b)
      (either (cuts_wrong from_log area x (operation_at l place x) b 0 (length (plan_at x.edition area x (operation_at l place x))))
      (word_wrong from_log w (place + 1) (stored area (plan_at x.edition area x (operation_at l place x))) (finished b l place))))
      own-record

  module _ (work work' : List ℕ) (a : Start) (ty : Typed o) (al : length area ≡ 1024) (wl : length work ≡ 256) (p : StartPromise r.edition freely o r area cells work work' a) where
    -- refused
    pub plays-refused : (c : Refusal) → a.answer ≡ Err c → Plays from_log l place area b area r cells b false
    plays-refused c e = go (cause_at area r o) refl
      where
        go : (x : Option Refusal) → cause_at area r o ≡ x → Plays from_log l place area b area r cells b false
        go none f =
            let s : Ok n ≡ Err c = sym (start-stores o ty area r cells work work' a y al wl p f) ∙ e in
            let z : ◌≡◌ {A = ℕ} 0 1 = cc in absurd (omega arith)
        go (some d) f =
            record {
              decides = λ w. from-letter w ∙ (unfold refuses pick either in ap (λ (x : Option Refusal). pick (refuses x) (word_wrong from_log w (place + 1) area b) (either (cuts_wrong from_log area r o b 0 n) (word_wrong from_log w (place + 1) (stored area (plan_at r.edition area r o)) (finished b l place)))) f);
              ready = λ _. y;
            }

    -- started
    pub record Begins (stores : ℕ) : Type 0 where
      pub accepted : cause_at area r o ≡ none
      pub count : stores ≡ n
      pub under : Under area r o stores area a.rec cells work'

    pub plays-started : (stores : ℕ) → a.answer ≡ Ok stores → Begins stores
    plays-started stores e = go (cause_at area r o) refl
      where
        go : (x : Option Refusal) → cause_at area r o ≡ x → Begins stores
        go none f =
            let s : Ok n ≡ Ok stores = sym (start-stores o ty area r cells work work' a y al wl p f) ∙ e in
            let same : stores ≡ n = cc in
            record { accepted = f; count = same; under = subst (λ (x : ℕ). Under area r o x area a.rec cells work') (sym same) (start_under o ty area r cells work work' a y al wl p f) }
        go (some d) f =
            let s : Err d ≡ Ok stores = sym (start-refused o ty area r cells work work' a y al wl p d f) ∙ e in
            let z : ◌≡◌ {A = ℕ} 0 1 = cc in absurd (omega arith)

  -- ---- its cuts

  module _ (accepted : cause_at area r o ≡ none) where
    from-started : (w : Word) → word_wrong from_log (l ∷ w) place area b
        ≡ either (cuts_wrong from_log area r o b 0 n) (word_wrong from_log w (place + 1) (stored area (plan_at r.edition area r o)) (finished b l place))
    from-started w =
        from-letter w
        ∙ (unfold refuses pick in ap (λ (x : Option Refusal). pick (refuses x) (word_wrong from_log w (place + 1) area b) (either (cuts_wrong from_log area r o b 0 n) (word_wrong from_log w (place + 1) (stored area (plan_at r.edition area r o)) (finished b l place)))) accepted)

    pub plays-wrong : (area' : List ℕ) (r' : Record) (cells' : List ℕ) (b' : Book) → cuts_wrong from_log area r o b 0 n ≡ true → Plays from_log l place area b area' r' cells' b' true
    plays-wrong area' r' cells' b' e =
        record {
          decides = λ w. from-started w ∙ (unfold either in ap (λ (t : Bool). either t (word_wrong from_log w (place + 1) (stored area (plan_at r.edition area r o)) (finished b l place))) e);
          ready = λ q. absurd (omega (arith, never q));
        }
      where
        never : ◌≡◌ {A = Bool} true false → ◌≡◌ {A = ℕ} 0 1
        never q = cc

    pub plays-ended : (area' : List ℕ) (r' : Record) (cells' : List ℕ) → cuts_wrong from_log area r o b 0 n ≡ false → Ended area r o area' r' cells' → Plays from_log l place area b area' r' cells' (finished b l place) false
    unfolding either
    plays-ended area' r' cells' e d =
        record {
          decides = λ w.
              from-started w
              ∙ ap (λ (t : Bool). either t (word_wrong from_log w (place + 1) (stored area (plan_at r.edition area r o)) (finished b l place))) e
              ∙ ap (λ (x : List ℕ). word_wrong from_log w (place + 1) x (finished b l place)) (sym d.stored-all);
          ready = λ _. d.ready;
        }

-- ---- the loop over the stores

module _ (from_log : Bool) (area : List ℕ) (r : Record) (o : Operation) (b : Book) (whole : Bool) (left : ℕ) (some : 0 < left) (area_now : List ℕ) (r_now : Record) (cells work : List ℕ)
    (u : Under area r o left area_now r_now cells work) (w : whole ≡ cuts_wrong from_log area r o b (length (plan_at r.edition area r o) - left) left)
    (t : Bool) (t-is : t ≡ wrong_at from_log area_now b) where
  from_cut : whole ≡ either t (cuts_wrong from_log area r o b (length (plan_at r.edition area r o) - left + 1) (left - 1))
  from_cut = w ∙ first left some ∙ ap (λ (x : Bool). either x (cuts_wrong from_log area r o b (length (plan_at r.edition area r o) - left + 1) (left - 1))) (ap (λ (x : List ℕ). wrong_at from_log x b) (sym (u.going some).area-now) ∙ sym t-is)
    where
      first : (m : ℕ) → 0 < m → cuts_wrong from_log area r o b (length (plan_at r.edition area r o) - left) m
          ≡ either (wrong_at from_log (stored area (take (length (plan_at r.edition area r o) - left) (plan_at r.edition area r o))) b) (cuts_wrong from_log area r o b (length (plan_at r.edition area r o) - left + 1) (m - 1))
      first zero h = absurd (omega arith)
      first (suc m) h = unfold cuts_wrong in ap (λ (x : ℕ). either (wrong_at from_log (stored area (take (length (plan_at r.edition area r o) - left) (plan_at r.edition area r o))) b) (cuts_wrong from_log area r o b (length (plan_at r.edition area r o) - left + 1) x)) (before m)
        where
          before : (m : ℕ) → m ≡ suc m - 1
          before m = omega arith

  pub cut-wrong : t ≡ true → whole ≡ true
  unfolding either
  cut-wrong e = from_cut ∙ ap (λ (x : Bool). either x (cuts_wrong from_log area r o b (length (plan_at r.edition area r o) - left + 1) (left - 1))) e

  pub cut_right : t ≡ false → whole ≡ cuts_wrong from_log area r o b (length (plan_at r.edition area r o) - (left - 1)) (left - 1)
  unfolding either
  cut_right e =
      from_cut
      ∙ ap (λ (x : Bool). either x (cuts_wrong from_log area r o b (length (plan_at r.edition area r o) - left + 1) (left - 1))) e
      ∙ ap (λ (x : ℕ). cuts_wrong from_log area r o b x (left - 1)) (one_less (length (plan_at r.edition area r o)) u.most)
    where
      one_less : (m : ℕ) → left ≤ m → m - left + 1 ≡ m - (left - 1)
      one_less m h = omega arith

pub cuts-start : (from_log : Bool) (area : List ℕ) (r : Record) (o : Operation) (b : Book) (stores : ℕ) → stores ≡ length (plan_at r.edition area r o)
    → cuts_wrong from_log area r o b 0 (length (plan_at r.edition area r o)) ≡ cuts_wrong from_log area r o b (length (plan_at r.edition area r o) - stores) stores
cuts-start from_log area r o b stores e =
    ap (λ (x : ℕ). cuts_wrong from_log area r o b x (length (plan_at r.edition area r o))) (none_done (length (plan_at r.edition area r o)) e)
    ∙ ap (cuts_wrong from_log area r o b (length (plan_at r.edition area r o) - stores)) (sym e)
  where
    none_done : (m : ℕ) → stores ≡ m → 0 ≡ m - stores
    none_done m q = omega arith

pub cuts-end : (from_log : Bool) (area : List ℕ) (r : Record) (o : Operation) (b : Book) (k left : ℕ) (whole : Bool) → left ≡ 0 → whole ≡ cuts_wrong from_log area r o b k left → whole ≡ false
cuts-end from_log area r o b k left whole e w = w ∙ ap (cuts_wrong from_log area r o b k) e ∙ (unfold cuts_wrong in refl)

-- ---- the loop over the letters

pub word-turn : (from_log : Bool) (whole : Bool) (v w : Word) (l : Letter) (place : ℕ) (area : List ℕ) (b : Book) (area' : List ℕ) (r' : Record) (cells' : List ℕ) (b' : Book) (wrong : Bool)
    → v ≡ l ∷ w → whole ≡ word_wrong from_log v place area b → Plays from_log l place area b area' r' cells' b' wrong
    → whole ≡ either wrong (word_wrong from_log w (place + 1) area' b')
word-turn from_log whole v w l place area b area' r' cells' b' wrong first h p =
    h ∙ ap (λ (x : Word). word_wrong from_log x place area b) first ∙ p.decides w

pub word-wrong : (whole wrong rest : Bool) → whole ≡ either wrong rest → wrong ≡ true → true ≡ whole
unfolding either
word-wrong whole wrong rest w e = sym (w ∙ ap (λ (x : Bool). either x rest) e)

pub word-right : (whole wrong rest : Bool) → whole ≡ either wrong rest → wrong ≡ false → whole ≡ rest
unfolding either
word-right whole wrong rest w e = w ∙ ap (λ (x : Bool). either x rest) e

pub word-start : (from_log : Bool) (w : Word) (area : List ℕ) (b : Book) → area ≡ formatted edition1 4 256 (replicate 1024 0) → b ≡ fresh_book → history_wrong from_log w ≡ word_wrong from_log w 1 area b
unfolding history_wrong
word-start from_log w area b e f = λ i. word_wrong from_log w 1 (sym e i) (sym f i)

pub word_end : (from_log : Bool) (whole : Bool) (v : Word) (place : ℕ) (area : List ℕ) (b : Book) → v ≡ [] → whole ≡ word_wrong from_log v place area b → (t : Bool) → t ≡ wrong_at from_log area b → t ≡ whole
unfolding word_wrong
word_end from_log whole v place area b e h t i = i ∙ sym (h ∙ ap (λ (x : Word). word_wrong from_log x place area b) e)

-- ---- the loops over the histories

pub first-append : (from_log : Bool) (a c : List Word) → first_wrong from_log a ≡ none → first_wrong from_log (a ++ c) ≡ first_wrong from_log c
unfolding first_wrong
first-append from_log [] c e = refl
first-append from_log (w ∷ a) c e = go (history_wrong from_log w) e (first-append from_log a c)
  where
    go : (t : Bool) → pick t (some w) (first_wrong from_log a) ≡ none → (first_wrong from_log a ≡ none → first_wrong from_log (a ++ c) ≡ first_wrong from_log c)
        → pick t (some w) (first_wrong from_log (a ++ c)) ≡ first_wrong from_log c
    go true e ih = unfold pick in (let z : ◌≡◌ {A = ℕ} 0 1 = cc in absurd (omega arith))
    go false e ih = unfold pick in ih e

pub first_found : (from_log : Bool) (a c : List Word) (w : Word) → first_wrong from_log a ≡ some w → first_wrong from_log (a ++ c) ≡ some w
unfolding first_wrong pick
first_found from_log [] c w e = let z : ◌≡◌ {A = ℕ} 0 1 = cc in absurd (omega arith)
first_found from_log (v ∷ a) c w e = go (history_wrong from_log v) e (first_found from_log a c w)
  where
    go : (t : Bool) → pick t (some v) (first_wrong from_log a) ≡ some w → (first_wrong from_log a ≡ some w → first_wrong from_log (a ++ c) ≡ some w)
        → pick t (some v) (first_wrong from_log (a ++ c)) ≡ some w
    go true e ih = e
    go false e ih = ih e

-- ---- the start of each letter

module _ (l : Letter) (place : ℕ) (r : Record) (area cells work work' : List ℕ) (a : Start) (t : Tables) (all : t ≡ all_tables) (k : Key) where
  abbrev Starts : Terms → Operation → Type 0
  Starts q o = StartPromise r.edition q o r area cells work work' a

  as-letter : (m : Letter) → l ≡ m → Starts freely (operation_at m place r) → Starts freely (operation_at l place r)
  as-letter m e p = subst (λ (x : Letter). Starts freely (operation_at x place r)) (sym e) p

  freely-reaching : (o : Operation) → Starts (reaching t) o → Starts freely o
  freely-reaching o p = subst (λ (x : Tables). Starts (reaching x) o) all p

  pub start-write-a : l ≡ WriteA → k ≡ first_key → Starts (reaching t) (write k (replicate 8 place)) → Starts freely (operation_at l place r)
  unfolding operation_at
  start-write-a e f p = as-letter WriteA e (freely-reaching _ (subst (λ (x : Key). Starts (reaching t) (write x (replicate 8 place))) f p))

  pub start-write-b : l ≡ WriteB → k ≡ second_key → Starts (reaching t) (write k (replicate 8 place)) → Starts freely (operation_at l place r)
  unfolding operation_at
  start-write-b e f p = as-letter WriteB e (freely-reaching _ (subst (λ (x : Key). Starts (reaching t) (write x (replicate 8 place))) f p))

  pub start-delete-a : l ≡ DeleteA → k ≡ first_key → Starts (reaching t) (delete k) → Starts freely (operation_at l place r)
  unfolding operation_at
  start-delete-a e f p = as-letter DeleteA e (freely-reaching _ (subst (λ (x : Key). Starts (reaching t) (delete x)) f p))

  pub start-delete-b : l ≡ DeleteB → k ≡ second_key → Starts (reaching t) (delete k) → Starts freely (operation_at l place r)
  unfolding operation_at
  start-delete-b e f p = as-letter DeleteB e (freely-reaching _ (subst (λ (x : Key). Starts (reaching t) (delete x)) f p))

pub start-clean : (l : Letter) (place : ℕ) (r : Record) (area cells work work' : List ℕ) (a : Start) → l ≡ CleanAll → StartPromise r.edition freely (clean r.map) r area cells work work' a
    → StartPromise r.edition freely (operation_at l place r) r area cells work work' a
unfolding operation_at
start-clean l place r area cells work work' a e p = subst (λ (x : Letter). StartPromise r.edition freely (operation_at x place r) r area cells work work' a) (sym e) p

pub format-fresh : (area' : List ℕ) (a : FormatAnswer) → FormatPromise 1 4 256 (replicate 1024 0) area' a → area' ≡ fresh_area
unfolding area_unless first_cause pick between both either is_none layout_numbered formatted_as
format-fresh area' a p = p.leaves

pub fresh-ready : (area cells cells' : List ℕ) (r : Recovery) → area ≡ fresh_area → length cells ≡ 16
    → RecoverPromise (image_layout 4 256 area) 4 256 (0 ∷ 1 ∷ 2 ∷ 3 ∷ []) area cells cells' r → Ready area r.rec cells'
fresh-ready area cells cells' r e long p =
    recovered-ready (0 ∷ 1 ∷ 2 ∷ 3 ∷ []) area cells cells' r order-up long p
    (subst Bytes (sym e) ((edition-laws edition1).format-bytes 4 256 (replicate 1024 0) (bytes-zeros 1024)))
    (ap (λ (x : Recovery). x.answer)
    (p.answers
    ∙ ap (λ (m : ℕ). recovery (image_layout 4 256 area) 4 256 m (0 ∷ 1 ∷ 2 ∷ 3 ∷ []) area) long
    ∙ recovered-recovery (image_layout 4 256 area) 4 256 16 area (0 ∷ 1 ∷ 2 ∷ 3 ∷ []) (record_from edition1 4 256 16 area) order-up
    (at-image edition1 area (record_from edition1 4 256 16 area) first)))
  where
    geometry : geometry_bad 4 256 (length {A = ℕ} (replicate 1024 0)) ≡ false
    geometry = unfold between both in refl

    cells-good : cells_good 16 ≡ true
    cells-good = unfold between both in refl

    first : recovered edition1 4 256 16 area ≡ some (record_from edition1 4 256 16 area)
    first =
        subst (λ (x : List ℕ). recovered edition1 4 256 16 x ≡ some (record_from edition1 4 256 16 x)) (sym e)
        ((edition-laws edition1).format-recovers 4 256 16 (replicate 1024 0) geometry cells-good)
