-- 02, R-1, over runs. A write that carries an expectation and is accepted found the book's version of its key; once it is finished,
-- it has replaced exactly that version. So no update is lost between a read and the write that rests on it.
use Rattle.std.specs.Prelude.{Ok}
use Prim.Native.Nat.{ℕ, zero, suc, ◌+◌, ◌-◌, ◌≤◌, ◌<◌}
use native.Mathlib.Omega.{arith}
use mathlib.Core.Path.{◌≡◌, refl, sym, ap, ◌∙◌, subst}
use mathlib.Core.Logic.{◌⊎◌, inl, inr}
use mathlib.Core.Bool.{Bool, true, false, not}
use mathlib.Core.List.{List, [], ◌∷◌, ◌++◌}
use mathlib.Core.Option.{Option, none, some}
use lib.Dec.{eqb}
use borrow.Author.Tests.{not-true}
use Rattle.word.specs.Number.{Bytes}
use Rattle.segment.specs.Choice.{pick}
use Rattle.segment.proofs.Choice.{both_left, both_right, pick_true}
use Rattle.segment.specs.Layout.{Layout, number_of_layout}
use Rattle.segment.specs.declared.Key.{Key}
use Rattle.segment.specs.declared.Version.{Version}
use Rattle.record.specs.Answers.{read_said, refusal}
use Rattle.record.specs.Reach.{holds_table}
use Rattle.record.specs.declared.Expected.{Expected}
use Rattle.record.specs.declared.Expected.TheVariants.{Only}
use Rattle.record.specs.Answered.{FormatAnswer}
use Rattle.record.specs.declared.Tables.{Tables}
use Rattle.model.specs.Log.{same_keys}
use Rattle.model.specs.Operations.{Operation, write, delete, clean}
use Rattle.model.specs.Refused.{Lengths, Terms}
use Rattle.model.specs.Promises.{FormatPromise}
use Rattle.history.specs.Book.{reads, starts, steps, switches, asks, recovers, Answer, saying, Event, called, cut, accepted, Kept, book_version, Awaited, Book, fresh_book, finish, version_for, one_off, take_one, feed_call, feed, book_after, book_of}
use Rattle.history.specs.Editions.{Editions, formatted_in, editions_after, editions_behind}
use Rattle.history.specs.Runs.{World}
use Rattle.history.specs.Demand3.{book_answer, Expects, StartAgrees, QuestionAgrees, EventAgrees, EventsAgree}
use Rattle.history.specs.Finishing.{goes_on, all_go_on, Finishes}
use Rattle.history.proofs.Books.{list-keeps}
use Rattle.history.proofs.Corollaries.{agree_at, agree-behind, book-append, same_keys-own, told_at, book-at, Leads, demanded}

-- ---- a pending operation that nothing breaks off

-- Either the operation o is still pending and the keys are those it was started on, or nothing is pending.
abbrev Ongoing : (Key → Option Kept) → Operation → Book → Type 0
Ongoing keys o b =
    (b.pending ≡ none) ⊎ ((left : ℕ) × ((b.pending ≡ some (record { operation = o; left = left })) × (b.keys ≡ keys)))

one_on : (keys : Key → Option Kept) (o : Operation) (b : Book) (m : ℕ) → b.keys ≡ keys → Ongoing keys o (one_off b o m)
unfolding one_off finish
one_on keys (write k value) b zero same = inl refl
one_on keys (delete k) b zero same = inl refl
one_on keys (clean victims) b zero same = inl refl
one_on keys o b (suc m) same = inr (suc m, (refl, same))

step-on : (keys : Key → Option Kept) (o : Operation) (b : Book) → Ongoing keys o b → Ongoing keys o (take_one b b.pending)
unfolding take_one
step-on keys o b (inl e) = subst (λ (p : Option Awaited). Ongoing keys o (take_one b p)) (sym e) (inl e)
step-on keys o b (inr (left, (e, same))) =
    subst (λ (p : Option Awaited). Ongoing keys o (take_one b p)) (sym e) (one_on keys o b (left - 1) same)

unless-on :
    (keys : Key → Option Kept) (o : Operation) (b new : Book) (t : Bool) → not t ≡ true → Ongoing keys o b → Ongoing keys o (pick t new b)
unfolding pick
unless-on keys o b new t e h = subst (λ (x : Bool). Ongoing keys o (pick x new b)) (sym (not-true t e)) h

event-on : (keys : Key → Option Kept) (o : Operation) (b : Book) (e : Event) → goes_on e ≡ true → Ongoing keys o b → Ongoing keys o (feed b e)
unfolding feed feed_call goes_on pick
event-on keys o b (called (starts t p) l a) g h = unless-on keys o b (feed_call b (starts t p) a.said.stores) (accepted a) g h
event-on keys o b (called steps l a) g h = go (accepted a)
  where
    go : (t : Bool) → Ongoing keys o (pick t (take_one b b.pending) b)
    go true = step-on keys o b h
    go false = h
event-on keys o b (called switches l a) g h = go (accepted a)
  where
    go : (t : Bool) → Ongoing keys o (pick t b b)
    go true = h
    go false = h
event-on keys o b (called (asks q) l a) g h = go (accepted a)
  where
    go : (t : Bool) → Ongoing keys o (pick t b b)
    go true = h
    go false = h
event-on keys o b (called (recovers n s order) l a) g h = unless-on keys o b (feed_call b (recovers n s order) a.said.stores) (accepted a) g h
event-on keys o b cut g h = let z : ◌≡◌ {A = ℕ} 0 1 = cc in absurd (omega arith)

list_on : (keys : Key → Option Kept) (o : Operation) (b : Book) (es : List Event) → all_go_on es ≡ true → Ongoing keys o b → Ongoing keys o (book_after b es)
unfolding book_after all_go_on
list_on keys o b [] g h = h
list_on keys o b (e ∷ es) g h =
    list_on keys o (feed b e) es (both_right (goes_on e) (all_go_on es) g) (event-on keys o b e (both_left (goes_on e) (all_go_on es) g) h)

-- at its last step the keys are still those, and it is that operation that is finished
pub record Still (keys : Key → Option Kept) (o : Operation) (b : Book) (p : Awaited) : Type 0 where
  pub same_operation : p.operation ≡ o
  pub same_keys : b.keys ≡ keys

still : (keys : Key → Option Kept) (o : Operation) (b : Book) (p : Awaited) → b.pending ≡ some p → Ongoing keys o b → Still keys o b p
still keys o b p e (inl n) = let both_ways : none ≡ some p = sym n ∙ e in let z : ◌≡◌ {A = ℕ} 0 1 = cc in absurd (omega arith)
still keys o b p e (inr (left, (f, same))) = record { same_operation = own (sym e ∙ f); same_keys = same }
  where
    own : some p ≡ some (record { operation = o; left = left }) → p.operation ≡ o
    own q = let s : p ≡ record { operation = o; left = left } = cc in ap (λ (x : Awaited). x.operation) s

-- ---- what becomes of an object in the book

-- Of an object x that the book held of a key when its next version was n: it is still held, or the key is gone, or it has a version
-- from n on. Versions are above 0.
pub data Fate (n : ℕ) (x : Kept) : Option Kept → Type 0 where
  held : Fate n x (some x)
  gone : Fate n x none
  newer : {y : Kept} → n ≤ y.version → Fate n x (some y)

pub record Since (n : ℕ) (x : Kept) (k : Key) (b : Book) : Type 0 where
  pub fate : Fate n x (b.keys k)
  pub risen : n ≤ b.next

pick-fate : (n : ℕ) (x : Kept) (t : Bool) (new old : Option Kept) → Fate n x new → Fate n x old → Fate n x (pick t new old)
unfolding pick
pick-fate n x true new old f g = f
pick-fate n x false new old f g = g

finish-fate : (n : ℕ) (x : Kept) (k : Key) (b : Book) (o : Operation) → Since n x k b → Since n x k (finish b o)
unfolding finish
finish-fate n x k b (write j value) h =
    record {
      fate = pick-fate n x (same_keys k j) (some (record { version = b.next; value = value })) (b.keys k) (newer h.risen) h.fate;
      risen = omega (arith, h.risen);
    }
finish-fate n x k b (delete j) h =
    record { fate = pick-fate n x (same_keys k j) none (b.keys k) gone h.fate; risen = omega (arith, h.risen) }
finish-fate n x k b (clean victims) h = record { fate = h.fate; risen = h.risen }

list-fate : (n : ℕ) (x : Kept) (k : Key) (b : Book) (es : List Event) → Since n x k b → Since n x k (book_after b es)
list-fate n x k b es h =
    list-keeps (Since n x k) (λ c p g. record { fate = g.fate; risen = g.risen }) (λ c o g. finish-fate n x k c o g) b es h

-- the same version, above 0 and below n, is the same object
fate-same : (n : ℕ) (x : Kept) (y : Option Kept) → Fate n x y → 0 < x.version → x.version < n → x.version ≡ book_version y → y ≡ some x
unfolding book_version
fate-same n x _ held low high e = refl
fate-same n x _ gone low high e = absurd (omega (arith, low, e))
fate-same n x _ (newer {y} h) low high e = absurd (omega (arith, high, e, h))

-- ---- the versions of a book are above 0 and below its next one

pub data Below (n : ℕ) : Option Kept → Type 0 where
  nothing : Below n none
  below : {x : Kept} → 0 < x.version → x.version < n → Below n (some x)

pub record Versioned (b : Book) : Type 0 where
  pub some_next : 0 < b.next
  pub versions : (k : Key) → Below b.next (b.keys k)

pick-below : (n : ℕ) (t : Bool) (new old : Option Kept) → Below n new → Below n old → Below n (pick t new old)
unfolding pick
pick-below n true new old f g = f
pick-below n false new old f g = g

raise-below : (n : ℕ) (x : Option Kept) → Below n x → Below (n + 1) x
raise-below n _ nothing = nothing
raise-below n _ (below low high) = below low (omega (arith, high))

finish-versioned : (b : Book) (o : Operation) → Versioned b → Versioned (finish b o)
unfolding finish
finish-versioned b (write j value) h =
    record {
      some_next = omega arith;
      versions =
          λ k.
          pick-below (b.next + 1) (same_keys k j) (some (record { version = b.next; value = value })) (b.keys k)
          (below h.some_next (omega arith)) (raise-below b.next (b.keys k) (h.versions k));
    }
finish-versioned b (delete j) h =
    record {
      some_next = omega arith;
      versions = λ k. pick-below (b.next + 1) (same_keys k j) none (b.keys k) nothing (raise-below b.next (b.keys k) (h.versions k));
    }
finish-versioned b (clean victims) h = record { some_next = h.some_next; versions = h.versions }

pub book-versioned : (es : List Event) → Versioned (book_of es)
book-versioned es =
    list-keeps Versioned (λ b p h. record { some_next = h.some_next; versions = h.versions }) finish-versioned fresh_book es
    (record { some_next = omega arith; versions = λ k. nothing })

-- ---- a read that was accepted told the version of what the book held

pub record Told (n : ℕ) (v : ℕ) (y : Option Kept) : Type 0 where
  pub object : Kept
  pub is-held : y ≡ some object
  pub its-version : object.version ≡ v
  pub low : 0 < object.version
  pub high : object.version < n

read_told : (L : Layout) (n : ℕ) (y : Option Kept) (a : Answer) → Below n y → a ≡ saying (read_said (book_answer L y)) → accepted a ≡ true → Told n a.said.version y
unfolding book_answer
read_told L n _ a nothing e done =
    let refused-8 : eqb 8 0 ≡ true = sym (ap accepted e) ∙ done in let z : ◌≡◌ {A = ℕ} 0 1 = cc in absurd (omega arith)
read_told L n _ a (below {x} low high) e done =
    record { object = x; is-held = refl; its-version = sym (ap (λ (y : Answer). y.said.version) e); low = low; high = high }

-- and its range held the key's table
within-told :
    (L : Layout) (t : Bool) (n : ℕ) (y : Option Kept) (a : Answer) → Below n y → a ≡ saying (pick t (read_said (book_answer L y)) (refusal 22)) →
    accepted a ≡ true → Told n a.said.version y
unfolding pick
within-told L true n y a h e done = read_told L n y a h e done
within-told L false n y a h e done =
    let refused-22 : eqb 22 0 ≡ true = sym (ap accepted e) ∙ done in let z : ◌≡◌ {A = ℕ} 0 1 = cc in absurd (omega arith)

agree-prefix : (E : Editions) (b : Book) (xs ys : List Event) → EventsAgree E b (xs ++ ys) → EventsAgree E b xs
unfolding EventsAgree
agree-prefix E b [] ys h = tt
agree-prefix E b (x ∷ xs) ys h = (h.0, agree-prefix (editions_after E x) (feed b x) xs ys h.1)

-- ---- runs

module _ (L : Layout) (n s : ℕ) (area₀ area : List ℕ) (ab : Bytes area₀) (format : FormatPromise (number_of_layout L) n s area₀ area (Ok tt)) where
  -- An accepted write that expects a version: it is the one that the book has of the key, 0 where it has none.
  pub expected-found :
      (before after : List Event) (t : Terms) (e : Version) (k : Key) (value : List ℕ) (l : Lengths) (a : Answer) (w : World) →
      Leads L n s area₀ area ab format (before ++ called (starts t (write k value)) l a ∷ after) w → t.expected ≡ Only e → accepted a ≡ true →
      e.0 ≡ book_version ((book_of before).keys k)
  unfolding EventAgrees StartAgrees Expects
  expected-found before after t e k value l a w run asked done =
      subst (λ (x : Expected). Expects x (book_version ((book_of before).keys k))) asked
      (agree_at (formatted_in L) fresh_book before (called (starts t (write k value)) l a) after
      (demanded L n s area₀ area ab format (before ++ called (starts t (write k value)) l a ∷ after) w run).agrees done)

  -- A write that expects a version is started, nothing breaks it off, and its last step is accepted. Up to that step the book had
  -- the expected version of the key, and from then on it has the value written, at the version told.
  module _ (before between after : List Event) (t : Terms) (e : Version) (k : Key) (value : List ℕ) (l m : Lengths) (a c : Answer) (w : World)
      (run : Leads L n s area₀ area ab format (before ++ called (starts t (write k value)) l a ∷ (between ++ called steps m c ∷ after)) w)
      (asked : t.expected ≡ Only e) (done : accepted a ≡ true) (unbroken : all_go_on between ≡ true)
    where
      abbrev pub begun : Book
      begun = feed (book_of before) (called (starts t (write k value)) l a)

      abbrev pub at_last : Book
      at_last = book_after begun between

      started : Ongoing (book_of before).keys (write k value) begun
      unfolding feed feed_call
      started =
          subst (λ (b : Book). Ongoing (book_of before).keys (write k value) b)
          (sym (pick_true (accepted a) (feed_call (book_of before) (starts t (write k value)) a.said.stores) (book_of before) done))
          (inr (a.said.stores, (refl, refl)))

      going : Ongoing (book_of before).keys (write k value) at_last
      going = list_on (book_of before).keys (write k value) begun between unbroken started

      pub replaces-expected :
          (f : Finishes at_last c) → (book_version (at_last.keys k) ≡ e.0) ×
          ((feed at_last (called steps m c)).keys k ≡ some (record { version = c.said.version; value = value }))
      unfolding finish version_for
      replaces-expected f = (
        ap (λ (keys : Key → Option Kept). book_version (keys k)) own.same_keys ∙ sym found,
        ap (λ (b : Book). b.keys k) (book-at at_last m c f)
            ∙ ap (λ (o : Operation). (finish at_last o).keys k) own.same_operation
            ∙ pick_true (same_keys k k) (some (record { version = at_last.next; value = value })) (at_last.keys k) (same_keys-own k)
            ∙ ap (λ (v : ℕ). some (record { version = v; value = value })) (sym told),
      )
        where
          own : Still (book_of before).keys (write k value) at_last f.awaited
          own = still (book_of before).keys (write k value) at_last f.awaited f.pending going

          found : e.0 ≡ book_version ((book_of before).keys k)
          found = expected-found before (between ++ called steps m c ∷ after) t e k value l a w run asked done

          told : c.said.version ≡ at_last.next
          told =
              told_at (editions_behind (editions_after (editions_behind (formatted_in L) before) (called (starts t (write k value)) l a)) between) at_last m c
              (agree_at (editions_after (editions_behind (formatted_in L) before) (called (starts t (write k value)) l a)) begun between (called steps m c) after
              (agree-behind (formatted_in L) fresh_book before (called (starts t (write k value)) l a) (between ++ called steps m c ∷ after)
              (demanded L n s area₀ area ab format (before ++ called (starts t (write k value)) l a ∷ (between ++ called steps m c ∷ after)) w run).agrees)) f
              ∙ ap (version_for at_last) own.same_operation

      -- The expectation was the version that an earlier read told. Then what the write replaces is what that read found, version and
      -- value: whatever was written or deleted under the key in between would have another version.
      pub no-update-lost :
          (first mid : List Event) (v : Tables) (j : Lengths) (r : Answer) → before ≡ first ++ called (asks (reads v k)) j r ∷ mid → accepted r ≡ true →
          r.said.version ≡ e.0 → Finishes at_last c → at_last.keys k ≡ (book_of first).keys k
      unfolding EventAgrees QuestionAgrees book_after
      no-update-lost first mid v j r split read_done rests f =
          ap (λ (keys : Key → Option Kept). keys k) own.same_keys
          ∙ ap (λ (b : Book). b.keys k) (ap book_of split ∙ book-append fresh_book first (called (asks (reads v k)) j r ∷ mid))
          ∙ fate-same (book_of first).next told.object (later.keys k) since.fate told.low told.high
          (told.its-version ∙ rests ∙ found ∙ ap (λ (x : Book). book_version (x.keys k)) (ap book_of split ∙ book-append fresh_book first (called (asks (reads v k)) j r ∷ mid)))
          ∙ sym told.is-held
        where
          own : Still (book_of before).keys (write k value) at_last f.awaited
          own = still (book_of before).keys (write k value) at_last f.awaited f.pending going

          found : e.0 ≡ book_version ((book_of before).keys k)
          found = expected-found before (between ++ called steps m c ∷ after) t e k value l a w run asked done

          agree : EventsAgree (formatted_in L) fresh_book (first ++ called (asks (reads v k)) j r ∷ mid)
          agree =
              subst (EventsAgree (formatted_in L) fresh_book) split
              (agree-prefix (formatted_in L) fresh_book before (called (starts t (write k value)) l a ∷ (between ++ called steps m c ∷ after))
              (demanded L n s area₀ area ab format (before ++ called (starts t (write k value)) l a ∷ (between ++ called steps m c ∷ after)) w run).agrees)

          told : Told (book_of first).next r.said.version ((book_of first).keys k)
          told =
              let (K, its, answer) = agree_at (formatted_in L) fresh_book first (called (asks (reads v k)) j r) mid agree in
              within-told K (holds_table v k.table) (book_of first).next ((book_of first).keys k) r ((book-versioned first).versions k) answer read_done

          later : Book
          later = book_after (feed (book_of first) (called (asks (reads v k)) j r)) mid

          since : Since (book_of first).next told.object k later
          since =
              list-fate (book_of first).next told.object k (book_of first) (called (asks (reads v k)) j r ∷ mid)
              (record { fate = subst (Fate (book_of first).next told.object) (sym told.is-held) held; risen = omega arith })
