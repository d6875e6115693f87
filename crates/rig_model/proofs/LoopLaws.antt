-- What the two loops of a run keep: the one over a letter's stores, and the one over a history's letters.
-- What is proved of the definitions in `specs/LoopLaws.antt`.
use Rattle.std.specs.Prelude.{ℕ, ◌+◌, ◌-◌, ◌<◌, ◌≡◌, refl, Bool, true, false, List, [], ◌∷◌, length, Ok, Err}
use Rattle.std.proofs.Common.{sym, ap, ◌∙◌, subst, length-set}
use Rattle.segment.specs.Choice.{either}
use Rattle.record.specs.declared.Record.{Record}
use Rattle.record.specs.declared.Refusal.{Refusal}
use Rattle.record.specs.Answered.{Start, Stepped}
use Rattle.model.specs.Refused.{freely}
use Rattle.model.specs.Promises.{StartPromise, StepPromise}
use Rattle.histories.specs.declared.Letter.{Letter}
use Rattle.histories.specs.declared.book.Book.{Book}
use Rattle.histories.specs.Letters.{Word}
use Rattle.histories.specs.Book.{finished}
use Rattle.rig_model.specs.Verdict.{wrong_at, operation_at, record_at, word_wrong}
use Rattle.rig_model.specs.RunLaws.{Ready, Under}
use Rattle.rig_model.proofs.RunLaws.{under-turn}
use Rattle.rig_model.proofs.RunLaws.{ready-record}
use Rattle.rig_model.proofs.CheckLaws.{area-long}
use Rattle.rig_model.specs.PlayLaws.{Plays}
use Rattle.rig_model.proofs.PlayLaws.{typed_at, plays-refused, plays-started, plays-wrong, plays-ended, cut-wrong, cut_right, cuts-start, cuts-end, word-turn, word-wrong, word-right, word_end}
use Rattle.rig_model.specs.LoopLaws.{Playing, Running, operation_on}

module _ (from_log : Bool) (l : Letter) (place : ℕ) (b : Book) (area : List ℕ) (r : Record) (cells work work' : List ℕ) (a : Start)
    (y : Ready area r cells) (small : place < 256) (wl : length work ≡ 256) (p : StartPromise r.edition freely (operation_at l place r) r area cells work work' a) where
  al : length area ≡ 1024
  al = area-long area r y.bytes y.recovers

  pub play-refused : (c : Refusal) → a.answer ≡ Err c → Plays from_log l place area b area r cells b false
  play-refused c e = plays-refused from_log l place area b r cells y work work' a (typed_at l place area r cells small y) al wl p c e

  own : r ≡ record_at area
  own = ready-record area r cells y

  y' : Ready area (record_at area) cells
  y' = subst (λ (x : Record). Ready area x cells) own y

  p' : StartPromise (record_at area).edition freely (operation_on l place area) (record_at area) area cells work work' a
  p' = subst (λ (x : Record). StartPromise x.edition freely (operation_at l place x) x area cells work work' a) own p

  pub play-starts : (stores : ℕ) → a.answer ≡ Ok stores → Playing from_log l place b area cells work' area cells a.rec stores
  play-starts stores e =
      let s = plays-started from_log l place area b (record_at area) cells y' work work' a (typed_at l place area (record_at area) cells small y') al wl p' stores e in
      record {
        ready = y';
        accepted = s.accepted;
        under = s.under;
        cuts = cuts-start from_log area (record_at area) (operation_on l place area) b stores s.count;
        area_same = refl;
        cells_same = refl;
      }

module _ (from_log : Bool) (l : Letter) (place : ℕ) (b : Book) (before cells₀ work area cells : List ℕ) (r : Record) (left : ℕ)
    (i : Playing from_log l place b before cells₀ work area cells r left) where
  module _ (some : 0 < left) (t : Bool) (t-is : t ≡ wrong_at from_log area b) where
    pub play-wrong : t ≡ true → (area' : List ℕ) (r' : Record) (cells' : List ℕ) (b' : Book) → Plays from_log l place before b area' r' cells' b' true
    play-wrong e area' r' cells' b' =
        plays-wrong from_log l place before b (record_at before) cells₀ i.ready i.accepted area' r' cells' b'
        (cut-wrong from_log before (record_at before) (operation_on l place before) b _ left some area r cells work i.under i.cuts t t-is e)

    pub play-turn : t ≡ false → (area' cells' : List ℕ) (a : Stepped) → StepPromise r.edition r area area' cells cells' work a → (rec' : Record) → rec' ≡ a.rec
        → Playing from_log l place b before cells₀ work area' cells' rec' (left - 1)
    play-turn e area' cells' a p rec' q =
        record {
          ready = i.ready;
          accepted = i.accepted;
          under =
              subst (λ (x : Record). Under before (record_at before) (operation_on l place before) (left - 1) area' x cells' work) (sym q)
              (under-turn before (record_at before) (operation_on l place before) left area r cells work area' cells' a some i.under p);
          cuts = cut_right from_log before (record_at before) (operation_on l place before) b _ left some area r cells work i.under i.cuts t t-is e;
          area_same = ap length p.one_byte.2 ∙ length-set area p.one_byte.0 p.one_byte.1 ∙ i.area_same;
          cells_same = p.same_length ∙ i.cells_same;
        }

  pub play-ends : left ≡ 0 → (b' : Book) → b' ≡ finished b l place → Plays from_log l place before b area r cells b' false
  play-ends e b' q =
      subst (λ (x : Book). Plays from_log l place before b area r cells x false) (sym q)
      (plays-ended from_log l place before b (record_at before) cells₀ i.ready i.accepted area r cells
      (cuts-end from_log before (record_at before) (operation_on l place before) b _ left _ e i.cuts) (i.under.ended e))

module _ (from_log whole : Bool) (v w : Word) (place : ℕ) (area cells work : List ℕ) (r : Record) (b : Book) (i : Running from_log whole v place area cells work r b)
    (l : Letter) (first : v ≡ l ∷ w) (area' cells' work' : List ℕ) (r' : Record) (b' : Book) (wrong : Bool) (p : Plays from_log l (place + 1) area b area' r' cells' b' wrong) where
  after-letter : whole ≡ either wrong (word_wrong from_log w (place + 1 + 1) area' b')
  after-letter = word-turn from_log whole v w l (place + 1) area b area' r' cells' b' wrong first i.decides p

  pub run-wrong : wrong ≡ true → true ≡ whole
  run-wrong e = word-wrong whole wrong _ after-letter e

  pub run-turn : wrong ≡ false → length work' ≡ 256 → (r'' : Record) (b'' : Book) → r'' ≡ r' → b'' ≡ b' → Running from_log whole w (place + 1) area' cells' work' r'' b''
  run-turn e wl r'' b'' q s =
      record {
        ready = subst (λ (x : Record). Ready area' x cells') (sym q) (p.ready e);
        work-long = wl;
        decides = word-right whole wrong _ after-letter e ∙ ap (word_wrong from_log w (place + 1 + 1) area') (sym s);
      }

pub run_end : (from_log whole : Bool) (v : Word) (place : ℕ) (area cells work : List ℕ) (r : Record) (b : Book) → Running from_log whole v place area cells work r b → v ≡ []
    → (t : Bool) → t ≡ wrong_at from_log area b → t ≡ whole
run_end from_log whole v place area cells work r b i e t q = word_end from_log whole v (place + 1) area b e i.decides t q
