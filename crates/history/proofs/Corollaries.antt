-- Corollaries of demand 3. A deleted key stays gone, whatever is cleaned and wherever the power fails, until a write of it is
-- finished. No two finished operations are told the same version, but for the 0 of cleanings, and every version told, by a read
-- too, is below the next version that a later recovery gives. A step is accepted only where the book has an operation pending.
use Rattle.std.specs.Prelude.{Ok, Err}
use Prim.Native.Nat.{ℕ, zero, suc, ◌+◌, ◌-◌, ◌≤◌, ◌<◌}
use native.Mathlib.Omega.{arith}
use mathlib.Core.Path.{◌≡◌, refl, ap, ◌∙◌, subst}
use mathlib.Core.Bool.{Bool, true, false, not}
use mathlib.Core.List.{List, [], ◌∷◌, ◌++◌}
use mathlib.Core.Option.{Option, none, some}
use lib.Dec.{eqb}
use lib.ListN.{length}
use borrow.Author.Tests.{not-true, eq-eqb}
use Rattle.word.specs.Number.{Bytes}
use Rattle.segment.specs.Choice.{pick, both}
use Rattle.segment.proofs.Choice.{both_left, both_right, both_true, pick_true, pick-false}
use Rattle.segment.specs.Layout.{Layout, number_of_layout}
use Rattle.segment.specs.declared.Key.{Key}
use Rattle.record.specs.Answers.{read_said, refusal}
use Rattle.record.specs.Answered.{FormatAnswer, Reading, ReadAnswer, Recovery}
use Rattle.record.specs.declared.Refusal.{Refusal}
use Rattle.record.specs.declared.Tables.{Tables}
use Rattle.record.specs.Reach.{holds_table}
use Rattle.model.specs.Log.{same_keys}
use Rattle.model.specs.Operations.{Operation, write, delete, clean, TypedKey}
use Rattle.model.specs.Recovery.{order_bad, image_layout}
use Rattle.model.specs.Refused.{Lengths}
use Rattle.model.specs.Promises.{FormatPromise, RecoverPromise, ReadPromise, Part, part_of, ValuePromise}
use Rattle.history.specs.Book.{Question, reads, reads_value, scans, scans_value, Call, starts, steps, switches, asks, recovers, Answer, saying, giving, Event, called, cut, accepted, Kept, Awaited, Book, fresh_book, finish, version_for, one_off, take_one, feed_call, feed, book_after, book_of, version_told, highest_told}
use Rattle.history.specs.Editions.{Editions, formatted_in, editions_after, editions_behind}
use Rattle.history.specs.Runs.{World, fresh_world, Run}
use Rattle.history.specs.Demand3.{LargeEnough, book_answer, book_value, GivesBook, StepAgrees, ReadAgrees, QuestionAgrees, EventAgrees, EventsAgree, Demand3Of}
use Rattle.history.specs.Finishing.{is_write_of, last_of_write, finishes_write, no_write, Finishes}
use Rattle.history.proofs.Books.{list-keeps}
use Rattle.history.proofs.Theorem.{demand-3}

-- ---- a list in two parts

pub book-append : (b : Book) (xs ys : List Event) → book_after b (xs ++ ys) ≡ book_after (book_after b xs) ys
unfolding book_after
book-append b [] ys = refl
book-append b (x ∷ xs) ys = book-append (feed b x) xs ys

pub agree_at :
    (E : Editions) (b : Book) (xs : List Event) (e : Event) (ys : List Event) → EventsAgree E b (xs ++ e ∷ ys) →
    EventAgrees (editions_behind E xs) (book_after b xs) e
unfolding EventsAgree book_after editions_behind
agree_at E b [] e ys h = h.0
agree_at E b (x ∷ xs) e ys h = agree_at (editions_after E x) (feed b x) xs e ys h.1

pub agree-behind :
    (E : Editions) (b : Book) (xs : List Event) (e : Event) (ys : List Event) → EventsAgree E b (xs ++ e ∷ ys) →
    EventsAgree (editions_after (editions_behind E xs) e) (feed (book_after b xs) e) ys
unfolding EventsAgree book_after editions_behind
agree-behind E b [] e ys h = h.1
agree-behind E b (x ∷ xs) e ys h = agree-behind (editions_after E x) (feed b x) xs e ys h.1

-- ---- a deleted key stays gone

gone-finish : (b : Book) (k : Key) (o : Operation) → b.keys k ≡ none → is_write_of k o ≡ false → (finish b o).keys k ≡ none
unfolding finish is_write_of pick
gone-finish b k (write j value) g h = pick-false (same_keys k j) (some (record { version = b.next; value = value })) (b.keys k) h ∙ g
gone-finish b k (delete j) g h = go (same_keys k j)
  where
    go : (t : Bool) → pick t none (b.keys k) ≡ none
    go true = refl
    go false = g
gone-finish b k (clean victims) g h = g

gone-last : (b : Book) (k : Key) (o : Operation) → b.keys k ≡ none → both (eqb 0 0) (is_write_of k o) ≡ false → (one_off b o zero).keys k ≡ none
unfolding one_off both
gone-last b k o g q = gone-finish b k o g q

gone-on : (b : Book) (k : Key) (o : Operation) (m : ℕ) → b.keys k ≡ none → (one_off b o (suc m)).keys k ≡ none
unfolding one_off
gone-on b k o m g = g

gone-step : (b : Book) (k : Key) (p : Option Awaited) → b.keys k ≡ none → last_of_write k p ≡ false → (take_one b p).keys k ≡ none
unfolding take_one last_of_write
gone-step b k none g h = g
gone-step b k (some p) g h = go (p.left - 1) h
  where
    go : (m : ℕ) → both (eqb m 0) (is_write_of k p.operation) ≡ false → (one_off b p.operation m).keys k ≡ none
    go zero q = gone-last b k p.operation g q
    go (suc m) q = gone-on b k p.operation m g

gone-event : (b : Book) (k : Key) (e : Event) → b.keys k ≡ none → finishes_write b e k ≡ false → (feed b e).keys k ≡ none
unfolding feed feed_call finishes_write pick both
gone-event b k (called steps l a) g h = go (accepted a) h
  where
    go : (t : Bool) → both t (last_of_write k b.pending) ≡ false → (pick t (feed_call b steps a.said.stores) b).keys k ≡ none
    go true q = gone-step b k b.pending g q
    go false q = g
gone-event b k (called (starts t o) l a) g h = go (accepted a)
  where
    go : (x : Bool) → (pick x (feed_call b (starts t o) a.said.stores) b).keys k ≡ none
    go true = g
    go false = g
gone-event b k (called switches l a) g h = go (accepted a)
  where
    go : (t : Bool) → (pick t (feed_call b switches a.said.stores) b).keys k ≡ none
    go true = g
    go false = g
gone-event b k (called (asks q) l a) g h = go (accepted a)
  where
    go : (t : Bool) → (pick t (feed_call b (asks q) a.said.stores) b).keys k ≡ none
    go true = g
    go false = g
gone-event b k (called (recovers n s order) l a) g h = go (accepted a)
  where
    go : (t : Bool) → (pick t (feed_call b (recovers n s order) a.said.stores) b).keys k ≡ none
    go true = g
    go false = g
gone-event b k cut g h = g

pub gone-after : (b : Book) (k : Key) (es : List Event) → b.keys k ≡ none → no_write b k es ≡ true → (book_after b es).keys k ≡ none
unfolding book_after no_write
gone-after b k [] g h = g
gone-after b k (e ∷ es) g h =
    gone-after (feed b e) k es
    (gone-event b k e g (not-true (finishes_write b e k) (both_left (not (finishes_write b e k)) (no_write (feed b e) k es) h)))
    (both_right (not (finishes_write b e k)) (no_write (feed b e) k es) h)

-- the last step of a delete drops its key
pub same_keys-own : (k : Key) → same_keys k k ≡ true
unfolding same_keys
same_keys-own k = both_true (eqb k.table k.table) (eqb k.key k.key) (eq-eqb k.table k.table refl) (eq-eqb k.key k.key refl)

deleted-gone :
    (b : Book) (k : Key) (l : Lengths) (a : Answer) → b.pending ≡ some (record { operation = delete k; left = 1 }) → accepted a ≡ true →
    (feed b (called steps l a)).keys k ≡ none
unfolding feed feed_call take_one one_off finish
deleted-gone b k l a p q =
    ap (λ (x : Book). x.keys k) (pick_true (accepted a) (take_one b b.pending) b q) ∙ ap (λ (x : Option Awaited). (take_one b x).keys k) p ∙
    pick_true (same_keys k k) none (b.keys k) (same_keys-own k)

-- a deleted key, and events in which no write of it is finished
module _ (before : List Event) (l : Lengths) (a : Answer) (k : Key) (deleting : (book_of before).pending ≡ some (record { operation = delete k; left = 1 }))
    (done : accepted a ≡ true) (since : List Event) (none_written : no_write (feed (book_of before) (called steps l a)) k since ≡ true)
  where
    gone-since : (book_after (feed (book_of before) (called steps l a)) since).keys k ≡ none
    gone-since =
        gone-after (feed (book_of before) (called steps l a)) k since (deleted-gone (book_of before) k l a deleting done) none_written

module _ (L : Layout) (n s : ℕ) (area₀ area : List ℕ) (ab : Bytes area₀) (format : FormatPromise (number_of_layout L) n s area₀ area (Ok tt)) where
  -- a list of events from the fresh store to a world, and what demand 3 says of it
  abbrev pub Leads : List Event → World → Type 0
  Leads es w = Run n s (fresh_world area) es w

  pub demanded : (es : List Event) (w : World) → Leads es w → Demand3Of L n s w es
  demanded es w run = demand-3 L n s area₀ area ab format es w run

  -- Once the last store of a delete is done, no later recovery gives the key a version or a value until a write of it is finished.
  pub deleted-stays-gone :
      (before after : List Event) (l : Lengths) (a : Answer) (k : Key) (w : World) → Leads (before ++ called steps l a ∷ after) w →
      (book_of before).pending ≡ some (record { operation = delete k; left = 1 }) → accepted a ≡ true →
      no_write (feed (book_of before) (called steps l a)) k after ≡ true → (order cells cells' : List ℕ) (r : Recovery) → order_bad n order ≡ false →
      LargeEnough w.cells (length cells) → RecoverPromise (image_layout n s w.area) n s order w.area cells cells' r → TypedKey k → (t : Tables) →
      holds_table t k.table ≡ true → ((x : Reading) → ReadPromise r.rec.edition r.rec w.area cells' t k x → x.answer ≡ Err Refusal.Absent)
      × ((p : Part) → ValuePromise r.rec.edition r.rec w.area cells' t k p → part_of w.area p ≡ [])
  unfolding book_answer book_value book_after
  deleted-stays-gone before after l a k w run deleting done none_written order cells cells' r good large promise typed t held = (
    λ x q. let (K, its, answer) = given.answers t k typed held x q in answer ∙ ap (book_answer K) gone,
    λ v q. given.values t k typed held v q ∙ ap book_value gone,
  )
    where
      given :
          GivesBook (editions_behind (formatted_in L) (before ++ called steps l a ∷ after)) w.area cells' r (book_of (before ++ called steps l a ∷ after))
      given = (demanded (before ++ called steps l a ∷ after) w run).recovery order cells cells' r good large promise

      gone : (book_of (before ++ called steps l a ∷ after)).keys k ≡ none
      gone =
          ap (λ (b : Book). b.keys k) (book-append fresh_book before (called steps l a ∷ after)) ∙
          gone-since before l a k deleting done after none_written

  -- And no read of it meanwhile, by the index or by scan: it answers 8, and the value is empty, whether an operation is pending or not.
  pub deleted-reads-gone :
      (before between after : List Event) (l lent : Lengths) (a x : Answer) (t : Tables) (k : Key) (q : Question) (w : World) → holds_table t k.table ≡ true →
      Leads (before ++ called steps l a ∷ (between ++ called (asks q) lent x ∷ after)) w →
      (book_of before).pending ≡ some (record { operation = delete k; left = 1 }) → accepted a ≡ true →
      no_write (feed (book_of before) (called steps l a)) k between ≡ true →
      (q ≡ reads t k → x ≡ saying (refusal 8)) × (q ≡ reads_value t k → x ≡ giving [])
      × ((n s : ℕ) → q ≡ scans n s t k → x ≡ saying (refusal 8)) × ((n s : ℕ) → q ≡ scans_value n s t k → x ≡ giving [])
  unfolding EventAgrees QuestionAgrees book_answer book_value
  deleted-reads-gone before between after l lent a x t k q w held run deleting done none_written = (
    λ e. says (subst (λ (y : Question). QuestionAgrees E now y x) e agrees),
    λ e. subst (λ (y : Question). QuestionAgrees E now y x) e agrees ∙ gives,
    λ n s e. says (subst (λ (y : Question). QuestionAgrees E now y x) e agrees),
    λ n s e. subst (λ (y : Question). QuestionAgrees E now y x) e agrees ∙ gives,
  )
    where
      now : Book
      now = book_after (feed (book_of before) (called steps l a)) between

      gone : now.keys k ≡ none
      gone = gone-since before l a k deleting done between none_written

      -- the editions that slots may have by then
      E : Editions
      E = editions_behind (editions_after (editions_behind (formatted_in L) before) (called steps l a)) between

      says : ReadAgrees E now t k x → x ≡ saying (refusal 8)
      says (K, its, answer) =
          answer
          ∙ ap saying (pick_true (holds_table t k.table) (read_said (book_answer K (now.keys k))) (refusal 22) held)
          ∙ ap (λ (y : Option Kept). saying (read_said (book_answer K y))) gone

      gives : giving (pick (holds_table t k.table) (book_value (now.keys k)) []) ≡ giving []
      gives =
          ap giving (pick_true (holds_table t k.table) (book_value (now.keys k)) [] held) ∙ ap (λ (y : Option Kept). giving (book_value y)) gone

      agrees : QuestionAgrees E now q x
      agrees =
          agree_at (editions_after (editions_behind (formatted_in L) before) (called steps l a)) (feed (book_of before) (called steps l a)) between (called (asks q) lent x) after
          (agree-behind (formatted_in L) fresh_book before (called steps l a) (between ++ called (asks q) lent x ∷ after)
          (demanded (before ++ called steps l a ∷ (between ++ called (asks q) lent x ∷ after)) w run).agrees)

  -- A step is accepted only where the book has an operation pending.
  pub accepted-awaited :
      (before after : List Event) (l : Lengths) (a : Answer) (w : World) → Leads (before ++ called steps l a ∷ after) w → accepted a ≡ true →
      (book_of before).pending ≡ none → ⊥
  unfolding EventAgrees StepAgrees
  accepted-awaited before after l a w run done none-pending =
      subst (λ (x : Option Awaited). StepAgrees (book_of before) a.said x) none-pending
      (agree_at (formatted_in L) fresh_book before (called steps l a) after (demanded (before ++ called steps l a ∷ after) w run).agrees done)

-- ---- versions told

finish-rises : (b : Book) (o : Operation) → b.next ≤ (finish b o).next
unfolding finish
finish-rises b (write k value) = omega arith
finish-rises b (delete k) = omega arith
finish-rises b (clean victims) = omega arith

pub list-rises : (b : Book) (es : List Event) → b.next ≤ (book_after b es).next
list-rises b es =
    list-keeps (λ (c : Book). b.next ≤ c.next) (λ c p h. h) (λ c o h. omega (arith, finish-rises c o, h)) b es (omega arith)

-- a version that is told and not 0 is the book's next, which then goes up
told_is : (b : Book) (o : Operation) → (version_for b o ≡ 0 → ⊥) → (version_for b o ≡ b.next) × (b.next < (finish b o).next)
unfolding version_for finish
told_is b (write k value) h = (refl, omega arith)
told_is b (delete k) h = (refl, omega arith)
told_is b (clean victims) h = absurd (h refl)

-- what a finished operation was told, at the book of the list before it
pub told_at :
    (E : Editions) (b : Book) (l : Lengths) (a : Answer) → EventAgrees E b (called steps l a) → (f : Finishes b a) →
    a.said.version ≡ version_for b f.awaited.operation
unfolding EventAgrees StepAgrees
told_at E b l a h f = (subst (λ (x : Option Awaited). StepAgrees b a.said x) f.pending (h f.is-accepted)).1 f.one_left

pub book-at : (b : Book) (l : Lengths) (a : Answer) (f : Finishes b a) → feed b (called steps l a) ≡ finish b f.awaited.operation
unfolding feed feed_call take_one one_off
book-at b l a f =
    pick_true (accepted a) (take_one b b.pending) b f.is-accepted ∙ ap (take_one b) f.pending ∙
    ap (λ (m : ℕ). one_off b f.awaited.operation (m - 1)) f.one_left

told_in : (before : List Event) (e : Event) (after : List Event) → version_told e ≤ highest_told (before ++ e ∷ after)
unfolding highest_told
told_in [] e after = omega arith
told_in (x ∷ xs) e after = omega (arith, told_in xs e after)

module _ (L : Layout) (n s : ℕ) (area₀ area : List ℕ) (ab : Bytes area₀) (format : FormatPromise (number_of_layout L) n s area₀ area (Ok tt)) where
  -- Whatever version a call told, a later recovery gives a higher next version.
  pub told-below-next :
      (before after : List Event) (c : Call) (l : Lengths) (a : Answer) (w : World) →
      Leads L n s area₀ area ab format (before ++ called c l a ∷ after) w → (order cells cells' : List ℕ) (r : Recovery) →
      order_bad n order ≡ false → LargeEnough w.cells (length cells) → RecoverPromise (image_layout n s w.area) n s order w.area cells cells' r →
      a.said.version < r.rec.next.0
  unfolding version_told
  told-below-next before after c l a w run order cells cells' r good large promise =
      let all = demanded L n s area₀ area ab format (before ++ called c l a ∷ after) w run in
      omega (arith, told_in before (called c l a) after, all.above-told, (all.recovery order cells cells' r good large promise).next-version)

  -- No two finished operations are told the same version, but for the 0 of cleanings: of two, the later is told a higher one, whatever
  -- stands between them.
  pub told-rises :
      (first between last : List Event) (l k : Lengths) (a c : Answer) (w : World) →
      Leads L n s area₀ area ab format (first ++ called steps l a ∷ (between ++ called steps k c ∷ last)) w → (f : Finishes (book_of first) a) →
      (g : Finishes (book_after (feed (book_of first) (called steps l a)) between) c) → (a.said.version ≡ 0 → ⊥) →
      (c.said.version ≡ 0 → ⊥) → a.said.version < c.said.version
  told-rises first between last l k a c w run f g na nc =
      omega (arith, told-a, told-c, is-a.0, is-a.1, is_c.0, rises, ap (λ (b : Book). b.next) (book-at b₁ l a f))
    where
      b₁ : Book
      b₁ = book_of first

      b₂ : Book
      b₂ = book_after (feed (book_of first) (called steps l a)) between

      agree : EventsAgree (formatted_in L) fresh_book (first ++ called steps l a ∷ (between ++ called steps k c ∷ last))
      agree = (demanded L n s area₀ area ab format (first ++ called steps l a ∷ (between ++ called steps k c ∷ last)) w run).agrees

      told-a : a.said.version ≡ version_for b₁ f.awaited.operation
      told-a = told_at (editions_behind (formatted_in L) first) b₁ l a (agree_at (formatted_in L) fresh_book first (called steps l a) (between ++ called steps k c ∷ last) agree) f

      told-c : c.said.version ≡ version_for b₂ g.awaited.operation
      told-c =
          told_at (editions_behind (editions_after (editions_behind (formatted_in L) first) (called steps l a)) between) b₂ k c
          (agree_at (editions_after (editions_behind (formatted_in L) first) (called steps l a)) (feed b₁ (called steps l a)) between (called steps k c) last
          (agree-behind (formatted_in L) fresh_book first (called steps l a) (between ++ called steps k c ∷ last) agree)) g

      is-a : (version_for b₁ f.awaited.operation ≡ b₁.next) × (b₁.next < (finish b₁ f.awaited.operation).next)
      is-a = told_is b₁ f.awaited.operation (λ z. na (told-a ∙ z))

      is_c : (version_for b₂ g.awaited.operation ≡ b₂.next) × (b₂.next < (finish b₂ g.awaited.operation).next)
      is_c = told_is b₂ g.awaited.operation (λ z. nc (told-c ∙ z))

      rises : (feed b₁ (called steps l a)).next ≤ b₂.next
      rises = list-rises (feed b₁ (called steps l a)) between
