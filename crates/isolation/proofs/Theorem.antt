-- Isolation, by an invariant of two runs: their worlds differ in the values of media's tables alone.
use Prim.Native.Nat.{ℕ, max}
use native.Mathlib.Omega.{arith}
use mathlib.Core.Path.{◌≡◌, refl, sym, ap, ◌∙◌, subst, subst⁻¹}
use mathlib.Core.Bool.{Bool, true, false}
use mathlib.Core.List.{List, [], ◌∷◌}
use mathlib.Core.Option.{none}
use lib.ListN.{length, replicate}
use borrow.Author.Tests.{not-false}
use Rattle.segment.specs.Choice.{pick}
use Rattle.segment.proofs.Choice.{pick_true, both_true, either-true-left, either-true-right}
use Rattle.segment.specs.Layout.{Layout}
use Rattle.segment.specs.declared.Key.{Key}
use Rattle.record.specs.declared.Record.{Record}
use Rattle.model.specs.Recovery.{image_layout, record_from}
use Rattle.model.specs.Operations.{Operation, write, delete, clean, log_now}
use Rattle.record.specs.declared.Tables.{Tables}
use Rattle.model.specs.Log.{Placed}
use Rattle.model.specs.Causes.{first_cause}
use Rattle.record.specs.Reach.{holds_table}
use Rattle.model.specs.Fewest.{FewestPromise, no_lengths}
use Rattle.model.specs.Refused.{Lengths, Terms, read_causes}
use Rattle.model.specs.Promises.{RecoverPromise, StartPromise, Genuine, ReadPromise, ValuePromise, part_of, read_lengths, lent_lengths, tell_lengths, StepPromise, TellPromise}
use Rattle.model.specs.Scanned.{ScanPromise, ScanValue}
use Rattle.laws.specs.CauseLaws.{no-cause}
use Rattle.laws.specs.Members.{clash}
use Rattle.laws.specs.Starts.{StartInside, start-inside}
use Rattle.laws.specs.Operated.{OperationLaws}
use Rattle.laws.specs.OperationsKept.{edition-laws}
use Rattle.laws.specs.RecoverLaws.{recovered-image}
use Rattle.history.specs.Book.{Question, reads, reads_value, tells, fewest, telling, naming, Call, starts, steps, switches, asks, recovers, Answer, saying, giving, Event, called, cut, Book, fresh_book, feed, version_told, scans, scans_value, converts, joins, pairing}
use Rattle.history.specs.Editions.{Editions, formatted_in, editions_after}
use Rattle.history.specs.Runs.{World, fresh_world, Asked, read, read_value, tell, least, Moves, start, step, switch, ask, recover, cuts, Run, stop, go, Scanned, scan, scan_value, convert, look, join}
use Rattle.model.specs.Joining.{JoinPromise}
use Rattle.model.specs.Switching.{SwitchPromise}
use Rattle.history.proofs.Invariant.{Inv, HeldGood, base_cells, held-promise, area-promise}
use Rattle.history.proofs.Theorem.{move-keeps, fresh}
use Rattle.isolation.specs.Owners.{Owner, servo, media, blanked_operation, blanked, SameCall, SameInput, SameInputs, SameNumbers, SameToServo, SameAnswer, SameAnswers, same_owner, start_range, range_of, range_holds, gives}
use Rattle.isolation.specs.Isolation.{Isolation}
use Rattle.isolation.proofs.HiddenBytes.{zeroed}
use Rattle.isolation.proofs.Alike.{layouts_same}
use Rattle.isolation.proofs.Operations.{hidden_operation}
use Rattle.isolation.proofs.Pair.{HeldBoth, Pair}
use Rattle.isolation.proofs.PairStarts.{held-alike, start-both}
use Rattle.isolation.proofs.PairSteps.{step_both}
use Rattle.isolation.proofs.PairSwitches.{switch-both}
use Rattle.isolation.proofs.PairScans.{scan-inside, scan-both, scan-value-both}
use Rattle.isolation.proofs.PairConversions.{convert-both}
use Rattle.isolation.proofs.PairReads.{read-both, value-both, join-both}
use Rattle.isolation.proofs.PairTells.{tell-both}
use Rattle.isolation.proofs.PairRecoveries.{recovered-area, cut-both, recover-both}

-- ---- what the same input says

blanked-same : (who : Owner) (c c' : Call) → SameCall who c c' → blanked c ≡ blanked c'
unfolding SameCall
blanked-same servo c c' e = cc
blanked-same media c c' e = e

-- Two calls that are the same but for value bytes are both starts, both steps, both switches, the same question or the same recovery.
data SameKind : Call → Call → Type 0 where
  both-start : (q q' : Terms) (o o' : Operation) → q ≡ q' → blanked_operation o ≡ blanked_operation o' → SameKind (starts q o) (starts q' o')
  both-step : SameKind steps steps
  both-switch : SameKind switches switches
  both-ask : (q q' : Question) → q ≡ q' → SameKind (asks q) (asks q')
  both-recover : (n n' s s' : ℕ) (order order' : List ℕ) → order ≡ order' → SameKind (recovers n s order) (recovers n' s' order')

same_kind : (c c' : Call) → blanked c ≡ blanked c' → SameKind c c'
unfolding blanked
same_kind (starts q o) (starts q' o') e =
    let terms : q ≡ q' = cc in let blank : blanked_operation o ≡ blanked_operation o' = cc in both-start q q' o o' terms blank
same_kind steps steps e = both-step
same_kind switches switches e = both-switch
same_kind (asks q) (asks q') e = both-ask q q' cc
same_kind (recovers n s order) (recovers n' s' order') e = both-recover n n' s s' order order' cc
same_kind (starts q o) steps e = let z : ◌≡◌ {A = ℕ} 0 1 = cc in absurd (omega arith)
same_kind (starts q o) (asks x) e = let z : ◌≡◌ {A = ℕ} 0 1 = cc in absurd (omega arith)
same_kind (starts q o) (recovers n s order) e = let z : ◌≡◌ {A = ℕ} 0 1 = cc in absurd (omega arith)
same_kind steps (starts q o) e = let z : ◌≡◌ {A = ℕ} 0 1 = cc in absurd (omega arith)
same_kind steps (asks q) e = let z : ◌≡◌ {A = ℕ} 0 1 = cc in absurd (omega arith)
same_kind steps (recovers n s order) e = let z : ◌≡◌ {A = ℕ} 0 1 = cc in absurd (omega arith)
same_kind (asks x) (starts q o) e = let z : ◌≡◌ {A = ℕ} 0 1 = cc in absurd (omega arith)
same_kind (asks q) steps e = let z : ◌≡◌ {A = ℕ} 0 1 = cc in absurd (omega arith)
same_kind (asks q) (recovers n s order) e = let z : ◌≡◌ {A = ℕ} 0 1 = cc in absurd (omega arith)
same_kind (recovers n s order) (starts q o) e = let z : ◌≡◌ {A = ℕ} 0 1 = cc in absurd (omega arith)
same_kind (recovers n s order) steps e = let z : ◌≡◌ {A = ℕ} 0 1 = cc in absurd (omega arith)
same_kind (recovers n s order) (asks q) e = let z : ◌≡◌ {A = ℕ} 0 1 = cc in absurd (omega arith)
same_kind (starts q o) switches e = let z : ◌≡◌ {A = ℕ} 0 1 = cc in absurd (omega arith)
same_kind steps switches e = let z : ◌≡◌ {A = ℕ} 0 1 = cc in absurd (omega arith)
same_kind (asks q) switches e = let z : ◌≡◌ {A = ℕ} 0 1 = cc in absurd (omega arith)
same_kind (recovers n s order) switches e = let z : ◌≡◌ {A = ℕ} 0 1 = cc in absurd (omega arith)
same_kind switches (starts q o) e = let z : ◌≡◌ {A = ℕ} 0 1 = cc in absurd (omega arith)
same_kind switches steps e = let z : ◌≡◌ {A = ℕ} 0 1 = cc in absurd (omega arith)
same_kind switches (asks q) e = let z : ◌≡◌ {A = ℕ} 0 1 = cc in absurd (omega arith)
same_kind switches (recovers n s order) e = let z : ◌≡◌ {A = ℕ} 0 1 = cc in absurd (omega arith)

-- what is the same whole serves either owner
answer-own : (who : Owner) (c c' : Call) (l l' : Lengths) (a : Answer) → SameAnswer who (called c l a) (called c' l' a)
unfolding SameAnswer SameToServo
answer-own servo (starts q o) c' l l' a = refl
answer-own servo steps c' l l' a = refl
answer-own servo switches c' l l' a = refl
answer-own servo (asks (reads u k)) c' l l' a = refl
answer-own servo (asks (reads_value u k)) c' l l' a = refl
answer-own servo (asks tells) c' l l' a = refl
answer-own servo (asks fewest) c' l l' a = refl
answer-own servo (asks joins) c' l l' a = refl
answer-own servo (asks (scans n s u k)) c' l l' a = refl
answer-own servo (asks (scans_value n s u k)) c' l l' a = refl
answer-own servo (asks (converts n s)) c' l l' a = refl
answer-own servo (recovers n s order) c' l l' a = refl
answer-own media c c' l l' a = refl

-- and numbers alone serve either owner of the call that tells the next store
numbers-same : (who : Owner) (l l' : Lengths) (a a' : Answer) → SameNumbers a a' → SameAnswer who (called (asks tells) l a) (called (asks tells) l' a')
unfolding SameAnswer SameToServo
numbers-same servo l l' a a' e = e
numbers-same media l l' a a' e = e

answer-same : (who : Owner) (c c' : Call) (l l' : Lengths) (a a' : Answer) → a ≡ a' → SameAnswer who (called c l a) (called c' l' a')
answer-same who c c' l l' a a' e = subst (λ (x : Answer). SameAnswer who (called c l a) (called c' l' x)) e (answer-own who c c' l l' a)

-- ---- the hidden tables

-- A range given by media lies within the hidden tables, one given by servo outside.
unfoldable Covers : (ℕ → Bool) → Owner → Event → Type 0
Covers of servo e = (t : ℕ) → range_holds (range_of e) t ≡ true → of t ≡ false
Covers of media e = (t : ℕ) → range_holds (range_of e) t ≡ true → of t ≡ true

-- all bytes hidden
abbrev any : ℕ → Bool
any t = true

any-blanked : (o : Operation) → hidden_operation any o ≡ blanked_operation o
unfolding hidden_operation blanked_operation zeroed pick
any-blanked (write k v) = refl
any-blanked (delete k) = refl
any-blanked (clean victims) = refl

-- a write to a hidden table is blanked; no other operation has bytes to hide
unfoldable bytes_hidden : (ℕ → Bool) → Operation → Bool
bytes_hidden of (write k v) = of k.table
bytes_hidden of (delete k) = true
bytes_hidden of (clean victims) = true

hidden-blanked : (of : ℕ → Bool) (o : Operation) → bytes_hidden of o ≡ true → hidden_operation of o ≡ blanked_operation o
unfolding hidden_operation blanked_operation zeroed bytes_hidden
hidden-blanked of (write k v) h = ap (write k) (pick_true (of k.table) (replicate (length v) 0) v h)
hidden-blanked of (delete k) h = refl
hidden-blanked of (clean victims) h = refl

blanked-hides : (of : ℕ → Bool) (o : Operation) → bytes_hidden of (blanked_operation o) ≡ bytes_hidden of o
unfolding bytes_hidden blanked_operation
blanked-hides of (write k v) = refl
blanked-hides of (delete k) = refl
blanked-hides of (clean victims) = refl

-- media's operation is one of these where the range given with it holds its table
media-hides : (of : ℕ → Bool) (q : Terms) (o : Operation) (l : Lengths) (a : Answer) → Covers of media (called (starts q o) l a) → StartInside q o → bytes_hidden of o ≡ true
unfolding Covers range_of start_range range_holds StartInside bytes_hidden
media-hides of q (write k v) l a c inside = c k.table inside
media-hides of q (delete k) l a c inside = refl
media-hides of q (clean victims) l a c inside = refl

-- the operations of one owner differ in hidden values alone
hidden-same :
    (of : ℕ → Bool) (who : Owner) (q q' : Terms) (o o' : Operation) (l : Lengths) (a : Answer) → SameCall who (starts q o) (starts q' o') →
    blanked_operation o ≡ blanked_operation o' → Covers of who (called (starts q o) l a) → StartInside q o → hidden_operation of o ≡ hidden_operation of o'
unfolding SameCall
hidden-same of servo q q' o o' l a e blank c inside = let same : o ≡ o' = cc in ap (hidden_operation of) same
hidden-same of media q q' o o' l a e blank c inside =
    let hides = media-hides of q o l a c inside in
    hidden-blanked of o hides ∙ blank ∙
    sym (hidden-blanked of o' (sym (blanked-hides of o') ∙ ap (bytes_hidden of) (sym blank) ∙ blanked-hides of o ∙ hides))

-- what an accepted read has tested
read-inside :
    (L : Layout) (r : Record) (log : List Placed) (l : Lengths) (u : Tables) (k : Key) → first_cause (read_causes L r log l u k) ≡ none →
    holds_table u k.table ≡ true
read-inside L r log l u k e = not-false (holds_table u k.table) (no-cause (read_causes L r log l u k) e).1.0

-- which questions are asked without a record
unfoldable by_scan : Question → Bool
by_scan (reads u k) = false
by_scan (reads_value u k) = false
by_scan tells = false
by_scan fewest = false
by_scan joins = false
by_scan (scans n s u k) = true
by_scan (scans_value n s u k) = true
by_scan (converts n s) = true

asked_by : {w : World} {q : Question} {l : Lengths} {a : Answer} → Asked w q l a → by_scan q ≡ false
unfolding by_scan
asked_by (read ty p) = refl
asked_by (read_value ty p) = refl
asked_by (tell own p) = refl
asked_by (least p) = refl
asked_by (join p) = refl

scanned-by : {n s : ℕ} {area : List ℕ} {q : Question} {l : Lengths} {a : Answer} → Scanned n s area q l a → by_scan q ≡ true
unfolding by_scan
scanned-by (scan ty p) = refl
scanned-by (scan_value ty p) = refl
scanned-by (convert p) = refl

module _ (E E' : Editions) (L : Layout) (n s : ℕ) (of : ℕ → Bool) where
  laws : OperationLaws L
  laws = edition-laws L

  -- ---- one event in both runs

  asked-both :
      {w w' : World} {q q' : Question} {l l' : Lengths} {a a' : Answer} (b b' : Book) (t t' : ℕ) (who : Owner) → Asked w q l a → Asked w' q' l' a' →
      Inv E L n s w b t → Inv E' L n s w' b' t' → Pair of L n s w w' → q ≡ q' → l ≡ l' → Covers of who (called (asks q) l a) →
      SameAnswer who (called (asks q) l a) (called (asks q') l' a')
  unfolding HeldGood HeldBoth
  asked-both b b' t t' who (read {area} {h} {m} {v = u} {k} {a} ty p) (read {area = area'} {h = h'} {m = m'} {v = u'} {k = k'} {a = a'} ty' p') inv inv' pair e lent c =
      answer-same who (asks (reads u k)) (asks (reads u' k')) (read_lengths area h.cells) (read_lengths area' h'.cells) _ _
      (ap saying
      (read-both of L laws area area' h.cells h'.cells h.rec (held-alike of E L n s area area' m b h inv.held pair.alike)
      inv.held.genuine
      (subst⁻¹ (λ (r : Record). Genuine L area' r h'.cells) pair.held.rec-same inv'.held.genuine) lent u k a a'
      (held-promise E L n s area m b h inv.held (λ (K : Layout). ReadPromise K h.rec area h.cells u k a) p)
      (subst⁻¹ (λ (v : Tables). ReadPromise L h.rec area' h'.cells v k a') tables
      (subst⁻¹ (λ (j : Key). ReadPromise L h.rec area' h'.cells u' j a') keys
      (subst⁻¹ (λ (r : Record). ReadPromise L r area' h'.cells u' k' a') pair.held.rec-same
      (held-promise E' L n s area' m' b' h' inv'.held (λ (K : Layout). ReadPromise K h'.rec area' h'.cells u' k' a') p'))))))
    where
      tables : u ≡ u'
      tables = cc

      keys : k ≡ k'
      keys = cc
  asked-both b b' t t' who (read_value {area} {h} {m} {v = u} {k} {p} ty q) (read_value {area = area'} {h = h'} {m = m'} {v = u'} {k = k'} {p = p'} ty' q') inv inv' pair e lent c = by-owner who c
    where
      tables : u ≡ u'
      tables = cc

      keys : k ≡ k'
      keys = cc

      by-owner :
          (who : Owner) → Covers of who (called (asks (reads_value u k)) (read_lengths area h.cells) (giving (part_of area p))) →
          SameAnswer who (called (asks (reads_value u k)) (read_lengths area h.cells) (giving (part_of area p)))
          (called (asks (reads_value u' k')) (read_lengths area' h'.cells) (giving (part_of area' p')))
      by-owner media c = unfold SameAnswer in refl
      by-owner servo c =
          unfold SameAnswer SameToServo Covers range_of range_holds in
          ap giving
          (value-both of L laws area area' h.cells h'.cells h.rec (held-alike of E L n s area area' m b h inv.held pair.alike)
          inv.held.genuine
          (subst⁻¹ (λ (r : Record). Genuine L area' r h'.cells) pair.held.rec-same inv'.held.genuine) lent u k inv.bytes inv'.bytes p p'
          (λ e. c k.table (read-inside L h.rec (log_now area h.rec) (read_lengths area h.cells) u k e))
          (held-promise E L n s area m b h inv.held (λ (K : Layout). ValuePromise K h.rec area h.cells u k p) q)
          (subst⁻¹ (λ (v : Tables). ValuePromise L h.rec area' h'.cells v k p') tables
          (subst⁻¹ (λ (j : Key). ValuePromise L h.rec area' h'.cells u' j p') keys
          (subst⁻¹ (λ (r : Record). ValuePromise L r area' h'.cells u' k' p') pair.held.rec-same
          (held-promise E' L n s area' m' b' h' inv'.held (λ (K : Layout). ValuePromise K h'.rec area' h'.cells u' k' p') q')))))
  asked-both b b' t t' who (join {area} {h} {m} {a} p) (join {area = area'} {h = h'} {m = m'} {a = a'} p') inv inv' pair e lent c =
      answer-same who (asks joins) (asks joins) (read_lengths area h.cells) (read_lengths area' h'.cells) _ _
      (ap pairing
      (join-both of L area area' h.cells h'.cells h.rec (held-alike of E L n s area area' m b h inv.held pair.alike)
      inv.held.genuine
      (subst⁻¹ (λ (r : Record). Genuine L area' r h'.cells) pair.held.rec-same inv'.held.genuine) lent a a'
      (held-promise E L n s area m b h inv.held (λ (K : Layout). JoinPromise K h.rec area h.cells a) p)
      (subst⁻¹ (λ (r : Record). JoinPromise L r area' h'.cells a') pair.held.rec-same
      (held-promise E' L n s area' m' b' h' inv'.held (λ (K : Layout). JoinPromise K h'.rec area' h'.cells a') p'))))
  asked-both b b' t t' who (join p) (read ty' p') inv inv' pair e lent c = let z : ◌≡◌ {A = ℕ} 0 1 = cc in absurd (omega arith)
  asked-both b b' t t' who (join p) (read_value ty' q') inv inv' pair e lent c = let z : ◌≡◌ {A = ℕ} 0 1 = cc in absurd (omega arith)
  asked-both b b' t t' who (read ty p) (join p') inv inv' pair e lent c = let z : ◌≡◌ {A = ℕ} 0 1 = cc in absurd (omega arith)
  asked-both b b' t t' who (read_value ty q) (join p') inv inv' pair e lent c = let z : ◌≡◌ {A = ℕ} 0 1 = cc in absurd (omega arith)
  asked-both b b' t t' who (read ty p) (read_value ty' q') inv inv' pair e lent c = let z : ◌≡◌ {A = ℕ} 0 1 = cc in absurd (omega arith)
  asked-both b b' t t' who (read_value ty q) (read ty' p') inv inv' pair e lent c = let z : ◌≡◌ {A = ℕ} 0 1 = cc in absurd (omega arith)
  asked-both b b' t t' who (tell {area} {work} {h} {m} {a} own p) (tell {area = area'} {work = work'} {h = h'} {m = m'} {a = a'} own' p') inv inv' pair e lent c =
      numbers-same who (tell_lengths area work) (tell_lengths area' work') (telling a.answer) (telling a'.answer)
      (tell-both of L area area' work work' h h' a a' pair.held lent own own'
      (held-promise E L n s area m b h inv.held (λ (K : Layout). TellPromise K h.rec area work a) p)
      (held-promise E' L n s area' m' b' h' inv'.held (λ (K : Layout). TellPromise K h'.rec area' work' a') p'))
  asked-both b b' t t' who (tell own p) (read ty' p') inv inv' pair e lent c = let z : ◌≡◌ {A = ℕ} 0 1 = cc in absurd (omega arith)
  asked-both b b' t t' who (tell own p) (read_value ty' q') inv inv' pair e lent c = let z : ◌≡◌ {A = ℕ} 0 1 = cc in absurd (omega arith)
  asked-both b b' t t' who (read ty p) (tell own' p') inv inv' pair e lent c = let z : ◌≡◌ {A = ℕ} 0 1 = cc in absurd (omega arith)
  asked-both b b' t t' who (read_value ty q) (tell own' p') inv inv' pair e lent c = let z : ◌≡◌ {A = ℕ} 0 1 = cc in absurd (omega arith)
  asked-both b b' t t' who (least {area} {h} {m} {a} p) (least {area = area'} {h = h'} {m = m'} {a = a'} p') inv inv' pair e lent c =
      answer-same who (asks fewest) (asks fewest) no_lengths no_lengths (naming a.answer) (naming a'.answer)
      (ap naming
      ((held-promise E L n s area m b h inv.held (λ (K : Layout). FewestPromise K h.rec a) p).answers ∙
      sym
      (subst⁻¹ (λ (r : Record). FewestPromise L r a') pair.held.rec-same
      (held-promise E' L n s area' m' b' h' inv'.held (λ (K : Layout). FewestPromise K h'.rec a') p')).answers))
  asked-both b b' t t' who (least p) (read ty' p') inv inv' pair e lent c = let z : ◌≡◌ {A = ℕ} 0 1 = cc in absurd (omega arith)
  asked-both b b' t t' who (least p) (read_value ty' q') inv inv' pair e lent c = let z : ◌≡◌ {A = ℕ} 0 1 = cc in absurd (omega arith)
  asked-both b b' t t' who (least p) (tell own' p') inv inv' pair e lent c = let z : ◌≡◌ {A = ℕ} 0 1 = cc in absurd (omega arith)
  asked-both b b' t t' who (read ty p) (least p') inv inv' pair e lent c = let z : ◌≡◌ {A = ℕ} 0 1 = cc in absurd (omega arith)
  asked-both b b' t t' who (read_value ty q) (least p') inv inv' pair e lent c = let z : ◌≡◌ {A = ℕ} 0 1 = cc in absurd (omega arith)
  asked-both b b' t t' who (tell own p) (least p') inv inv' pair e lent c = let z : ◌≡◌ {A = ℕ} 0 1 = cc in absurd (omega arith)
  asked-both b b' t t' who (join p) (tell own' p') inv inv' pair e lent c = let z : ◌≡◌ {A = ℕ} 0 1 = cc in absurd (omega arith)
  asked-both b b' t t' who (join p) (least p') inv inv' pair e lent c = let z : ◌≡◌ {A = ℕ} 0 1 = cc in absurd (omega arith)
  asked-both b b' t t' who (tell own p) (join p') inv inv' pair e lent c = let z : ◌≡◌ {A = ℕ} 0 1 = cc in absurd (omega arith)
  asked-both b b' t t' who (least p) (join p') inv inv' pair e lent c = let z : ◌≡◌ {A = ℕ} 0 1 = cc in absurd (omega arith)

  looked-both :
      {w w' : World} {q q' : Question} {l l' : Lengths} {a a' : Answer} (b b' : Book) (t t' : ℕ) (who : Owner) → Scanned n s w.area q l a →
      Scanned n s w'.area q' l' a' → Inv E L n s w b t → Inv E' L n s w' b' t' → Pair of L n s w w' → q ≡ q' → l ≡ l' → Covers of who (called (asks q) l a) →
      SameAnswer who (called (asks q) l a) (called (asks q') l' a')
  looked-both {w} {w'} b b' t t' who (scan {v = u} {k} {a} ty p) (scan {v = u'} {k = k'} {a = a'} ty' p') inv inv' pair e lent c =
      answer-same who _ _ _ _ _ _
      (ap saying
      (scan-both of L laws n s (base_cells w.cells) (base_cells w'.cells) w.area w'.area inv.bytes inv'.bytes inv.base inv'.base
      pair.alike u k a a'
      (area-promise E L n s w b t inv (λ (K : Layout). ScanPromise K n s w.area u k a) p)
      (subst⁻¹ (λ (v : Tables). ScanPromise L n s w'.area v k a') tables
      (subst⁻¹ (λ (j : Key). ScanPromise L n s w'.area u' j a') keys
      (area-promise E' L n s w' b' t' inv' (λ (K : Layout). ScanPromise K n s w'.area u' k' a') p')))))
    where
      tables : u ≡ u'
      tables = cc

      keys : k ≡ k'
      keys = cc
  looked-both {w} {w'} b b' t t' who (scan_value {v = u} {k} {p} ty q) (scan_value {v = u'} {k = k'} {p = p'} ty' q') inv inv' pair e lent c = by-owner who c
    where
      tables : u ≡ u'
      tables = cc

      keys : k ≡ k'
      keys = cc

      by-owner :
          (who : Owner) → Covers of who (called (asks (scans_value n s u k)) (read_lengths w.area []) (giving (part_of w.area p))) →
          SameAnswer who (called (asks (scans_value n s u k)) (read_lengths w.area []) (giving (part_of w.area p)))
          (called (asks (scans_value n s u' k')) (read_lengths w'.area []) (giving (part_of w'.area p')))
      by-owner media c = unfold SameAnswer in refl
      by-owner servo c =
          unfold SameAnswer SameToServo Covers range_of range_holds in
          ap giving
          (scan-value-both of L laws n s (base_cells w.cells) (base_cells w'.cells) w.area w'.area inv.bytes inv'.bytes inv.base
          inv'.base pair.alike u k p p'
          (λ e. c k.table (scan-inside L laws n s (base_cells w.cells) w.area inv.bytes inv.base u k e))
          (area-promise E L n s w b t inv (λ (K : Layout). ScanValue K n s w.area u k p) q)
          (subst⁻¹ (λ (v : Tables). ScanValue L n s w'.area v k p') tables
          (subst⁻¹ (λ (j : Key). ScanValue L n s w'.area u' j p') keys
          (area-promise E' L n s w' b' t' inv' (λ (K : Layout). ScanValue K n s w'.area u' k' p') q'))))
  looked-both {w} {w'} b b' t t' who (convert {target} {target' = target₁} {a} p) (convert {target = target'} {target' = target₁'} {a = a'} p') inv inv' pair e lent c =
      answer-same who _ _ _ _ _ _
      (ap saying
      (convert-both of L n s (base_cells w.cells) (base_cells w'.cells) w.area w'.area inv.base inv'.base pair.alike target target' target₁
      target₁' a a' (ap (λ (x : Lengths). x.work) lent) p p'))
  looked-both b b' t t' who (scan ty p) (scan_value ty' q') inv inv' pair e lent c = let z : ◌≡◌ {A = ℕ} 0 1 = cc in absurd (omega arith)
  looked-both b b' t t' who (scan ty p) (convert p') inv inv' pair e lent c = let z : ◌≡◌ {A = ℕ} 0 1 = cc in absurd (omega arith)
  looked-both b b' t t' who (scan_value ty q) (convert p') inv inv' pair e lent c = let z : ◌≡◌ {A = ℕ} 0 1 = cc in absurd (omega arith)
  looked-both b b' t t' who (convert p) (scan ty' p') inv inv' pair e lent c = let z : ◌≡◌ {A = ℕ} 0 1 = cc in absurd (omega arith)
  looked-both b b' t t' who (convert p) (scan_value ty' q') inv inv' pair e lent c = let z : ◌≡◌ {A = ℕ} 0 1 = cc in absurd (omega arith)
  looked-both b b' t t' who (scan_value ty q) (scan ty' p') inv inv' pair e lent c = let z : ◌≡◌ {A = ℕ} 0 1 = cc in absurd (omega arith)

  -- The worlds that the events leave are a pair, by the edition that the head then has (02, R-13), and they answer the same.
  abbrev Both : Owner → World → World → Event → Event → Type 0
  Both who x x' e e' = ((K : Layout) → image_layout n s x.area ≡ K → Pair of K n s x x') × SameAnswer who e e'

  -- it is the one that it had where the area stays
  stays :
      {w x x' : World} (b : Book) (t : ℕ) → Inv E L n s w b t → x.area ≡ w.area → Pair of L n s x x' → (K : Layout) → image_layout n s x.area ≡ K →
      Pair of K n s x x'
  stays {w} {x} {x'} b t inv same pair K image =
      subst (λ (M : Layout). Pair of M n s x x')
      (sym (ap (image_layout n s) same ∙ recovered-image L n s (base_cells w.cells) w.area (record_from L n s (base_cells w.cells) w.area) inv.base) ∙ image)
      pair

  started :
      {w w' x x' : World} {q q' : Terms} {o o' : Operation} {l l' : Lengths} {a a' : Answer} (b b' : Book) (t t' : ℕ) (who : Owner) →
      Moves n s w (called (starts q o) l a) x → Moves n s w' (called (starts q' o') l' a') x' → Inv E L n s w b t → Inv E' L n s w' b' t' →
      Pair of L n s w w' → SameCall who (starts q o) (starts q' o') → q ≡ q' → blanked_operation o ≡ blanked_operation o' → l ≡ l' →
      Covers of who (called (starts q o) l a) → Both who x x' (called (starts q o) l a) (called (starts q' o') l' a')
  unfolding HeldGood HeldBoth
  started b b' t t' who (start {area} {work} {work' = work₁} {h} {m} {q} {o} {a} ty p) (start {area = area'} {work = work'} {work' = work₁'} {h = h'} {m = m'} {q = q'} {o = o'} {a = a'} ty' p') inv inv' pair same terms blank lent c =
      let all =
      start-both of any L area area' h h' q o o' work work' work₁ work₁' a a' inv.bytes inv'.bytes ty ty' pair.held
      (held-alike of E L n s area area' m b h inv.held pair.alike) inv.held.genuine inv'.held.genuine lent
      (any-blanked o ∙ blank ∙ sym (any-blanked o')) (λ e. hidden-same of who q q' o o' _ _ same blank c (start-inside L h.rec (log_now area h.rec) (lent_lengths area h.cells work) q o e))
      (held-promise E L n s area m b h inv.held (λ (K : Layout). StartPromise K q o h.rec area h.cells work work₁ a) p)
      (subst⁻¹ (λ (x : Terms). StartPromise L x o' h'.rec area' h'.cells work' work₁' a') terms
      (held-promise E' L n s area' m' b' h' inv'.held (λ (K : Layout). StartPromise K q' o' h'.rec area' h'.cells work' work₁' a') p')) in
      (stays b t inv refl (record { alike = pair.alike; held = all.0 }), answer-same who _ _ _ _ _ _ (ap saying all.1))

  stepped-both :
      {w w' x x' : World} {l l' : Lengths} {a a' : Answer} (b b' : Book) (t t' : ℕ) (who : Owner) → Moves n s w (called steps l a) x →
      Moves n s w' (called steps l' a') x' → Inv E L n s w b t → Inv E' L n s w' b' t' → Pair of L n s w w' → l ≡ l' →
      Both who x x' (called steps l a) (called steps l' a')
  unfolding HeldGood HeldBoth
  stepped-both b b' t t' who (step {area} {area' = area₁} {cells' = cells₁} {work} {h} {m} {a} own p) (step {area = area'} {area' = area₁'} {cells' = cells₁'} {work = work'} {h = h'} {m = m'} {a = a'} own' p') inv inv' pair lent =
      let all =
      step_both of L n s h h' area area' area₁ area₁' cells₁ cells₁' work work' a a' inv.held.slots_same inv.held.size_same pair.alike
      pair.held inv.held.genuine inv'.held.genuine lent own own'
      (held-promise E L n s area m b h inv.held (λ (K : Layout). StepPromise K h.rec area area₁ h.cells cells₁ work a) p)
      (held-promise E' L n s area' m' b' h' inv'.held (λ (K : Layout). StepPromise K h'.rec area' area₁' h'.cells cells₁' work' a') p') in
      (λ K image. record { alike = all.0; held = all.1 K image }, answer-same who _ _ _ _ _ _ (ap saying all.2))

  switched-both :
      {w w' x x' : World} {l l' : Lengths} {a a' : Answer} (b b' : Book) (t t' : ℕ) (who : Owner) → Moves n s w (called switches l a) x →
      Moves n s w' (called switches l' a') x' → Inv E L n s w b t → Inv E' L n s w' b' t' → Pair of L n s w w' →
      Both who x x' (called switches l a) (called switches l' a')
  unfolding HeldGood HeldBoth
  switched-both b b' t t' who (switch {area} {h} {m} {a} p) (switch {area = area'} {h = h'} {m = m'} {a = a'} p') inv inv' pair =
      let all =
      switch-both of L area area' h h' pair.held a a'
      (held-promise E L n s area m b h inv.held (λ (K : Layout). SwitchPromise K h.rec a) p)
      (held-promise E' L n s area' m' b' h' inv'.held (λ (K : Layout). SwitchPromise K h'.rec a') p') in
      (stays b t inv refl (record { alike = pair.alike; held = all.0 }), answer-same who _ _ _ _ _ _ (ap saying all.1))

  recovered-both :
      {w w' x x' : World} {k k' j j' : ℕ} {order order' : List ℕ} {l l' : Lengths} {a a' : Answer} (b b' : Book) (t t' : ℕ) (who : Owner) →
      Moves n s w (called (recovers k j order) l a) x → Moves n s w' (called (recovers k' j' order') l' a') x' → Inv E L n s w b t →
      Inv E' L n s w' b' t' → Pair of L n s w w' → order ≡ order' → l ≡ l' →
      Both who x x' (called (recovers k j order) l a) (called (recovers k' j' order') l' a')
  recovered-both b b' t t' who (recover {w} {order} {cells} {cells' = cells₁} {r} p) (recover {w = w'} {order = order'} {cells = cells'} {cells' = cells₁'} {r = r'} p') inv inv' pair same lent =
      let all =
      recover-both of L n s w w' pair (base_cells w.cells) (record_from L n s (base_cells w.cells) w.area) inv.base order cells cells' cells₁ cells₁'
      r r' lent
      (area-promise E L n s w b t inv (λ (K : Layout). RecoverPromise K n s order w.area cells cells₁ r) p)
      (subst⁻¹ (λ (l : List ℕ). RecoverPromise L n s l w'.area cells' cells₁' r') same
      (area-promise E' L n s w' b' t' inv' (λ (K : Layout). RecoverPromise K n s order' w'.area cells' cells₁' r') p')) in
      (stays b t inv (recovered-area w cells₁ r) all.0, answer-same who _ _ _ _ _ _ (ap saying all.1))

  called-both :
      {w w' x x' : World} {c c' : Call} {l l' : Lengths} {a a' : Answer} (b b' : Book) (t t' : ℕ) (who : Owner) → SameKind c c' →
      Moves n s w (called c l a) x → Moves n s w' (called c' l' a') x' → Inv E L n s w b t → Inv E' L n s w' b' t' → Pair of L n s w w' →
      SameCall who c c' → l ≡ l' → Covers of who (called c l a) → Both who x x' (called c l a) (called c' l' a')
  called-both b b' t t' who (both-start q q' o o' d e) m m' inv inv' pair same lent c = started b b' t t' who m m' inv inv' pair same d e lent c
  called-both b b' t t' who both-step m m' inv inv' pair same lent c = stepped-both b b' t t' who m m' inv inv' pair lent
  called-both b b' t t' who both-switch m m' inv inv' pair same lent c = switched-both b b' t t' who m m' inv inv' pair
  called-both b b' t t' who (both-ask q q' e) (ask p) (ask p') inv inv' pair same lent c =
      (stays b t inv refl pair, asked-both b b' t t' who p p' inv inv' pair e lent c)
  called-both b b' t t' who (both-ask q q' e) (look p) (look p') inv inv' pair same lent c =
      (stays b t inv refl pair, looked-both b b' t t' who p p' inv inv' pair e lent c)
  called-both b b' t t' who (both-ask q q' e) (ask p) (look p') inv inv' pair same lent c =
      absurd (clash (by_scan q) (ap by_scan e ∙ scanned-by p') (asked_by p))
  called-both b b' t t' who (both-ask q q' e) (look p) (ask p') inv inv' pair same lent c =
      absurd (clash (by_scan q) (scanned-by p) (ap by_scan e ∙ asked_by p'))
  called-both b b' t t' who (both-recover k k' j j' order order' e) m m' inv inv' pair same lent c = recovered-both b b' t t' who m m' inv inv' pair e lent

  move-both :
      {w w' x x' : World} (e e' : Event) (b b' : Book) (t t' : ℕ) (who : Owner) → Moves n s w e x → Moves n s w' e' x' → Inv E L n s w b t →
      Inv E' L n s w' b' t' → Pair of L n s w w' → SameInput who e e' → Covers of who e → Both who x x' e e'
  unfolding SameInput SameAnswer
  move-both (called c l a) (called c' l' a') b b' t t' who m m' inv inv' pair same cov =
      called-both b b' t t' who (same_kind c c' (blanked-same who c c' same.0)) m m' inv inv' pair same.0 same.1 cov
  move-both cut cut b b' t t' who (cuts {w}) (cuts {w = w'}) inv inv' pair same cov = (stays b t inv refl (cut-both of L n s w w' pair), tt)
  move-both (called c l a) cut b b' t t' who m m' inv inv' pair same cov = absurd same
  move-both cut (called c l a) b b' t t' who m m' inv inv' pair same cov = absurd same

-- ---- two lists of events

module _ (n s : ℕ) (of : ℕ → Bool) where
  -- every range given in the list
  abbrev CoversAll : List Owner → List Event → Type 0
  CoversAll owners es = ((t : ℕ) → gives servo owners es t ≡ true → of t ≡ false) × ((t : ℕ) → gives media owners es t ≡ true → of t ≡ true)

  covers-first : (who : Owner) (owners : List Owner) (e : Event) (es : List Event) → CoversAll (who ∷ owners) (e ∷ es) → Covers of who e
  unfolding Covers gives same_owner
  covers-first servo owners e es c = λ t h. c.0 t (either-true-left _ _ (both_true _ _ refl h))
  covers-first media owners e es c = λ t h. c.1 t (either-true-left _ _ (both_true _ _ refl h))

  covers-rest : (who : Owner) (owners : List Owner) (e : Event) (es : List Event) → CoversAll (who ∷ owners) (e ∷ es) → CoversAll owners es
  unfolding gives
  covers-rest who owners e es c = (λ t h. c.0 t (either-true-right _ _ h), λ t h. c.1 t (either-true-right _ _ h))

  -- the heads of a pair of worlds are of one edition
  one-edition :
      {w w' : World} (E E' : Editions) (L K : Layout) (b b' : Book) (t t' : ℕ) → Inv E L n s w b t → Inv E' K n s w' b' t' → Pair of L n s w w' → K ≡ L
  one-edition {w} {w'} E E' L K b b' t t' inv inv' pair =
      sym (recovered-image K n s (base_cells w'.cells) w'.area (record_from K n s (base_cells w'.cells) w'.area) inv'.base) ∙
      sym (layouts_same of L n s w.area w'.area pair.alike (base_cells w.cells) rec inv.base) ∙
      recovered-image L n s (base_cells w.cells) w.area rec inv.base
    where
      rec : Record
      rec = record_from L n s (base_cells w.cells) w.area

  runs-both :
      {w w' x x' : World} {es es' : List Event} (owners : List Owner) (E E' : Editions) (L : Layout) (b b' : Book) (t t' : ℕ) → Run n s w es x →
      Run n s w' es' x' → Inv E L n s w b t → Inv E' L n s w' b' t' → Pair of L n s w w' → SameInputs owners es es' → CoversAll owners es →
      SameAnswers owners es es'
  unfolding SameInputs SameAnswers
  runs-both [] E E' L b b' t t' stop stop inv inv' pair same c = tt
  runs-both (who ∷ owners) E E' L b b' t t' (go {x} {e} {es} m r) (go {x = x'} {e = e'} {es = es'} m' r') inv inv' pair same c =
      let one = move-both E E' L n s of e e' b b' t t' who m m' inv inv' pair same.0 (covers-first who owners e es c) in
      let (K, kept, _) = move-keeps n s E L b t m inv in
      let (K', kept', _) = move-keeps n s E' L b' t' m' inv' in
      let left = one.0 K (recovered-image K n s (base_cells x.cells) x.area (record_from K n s (base_cells x.cells) x.area) kept.base) in (
        one.1,
        runs-both owners (editions_after E e) (editions_after E' e') K (feed b e) (feed b' e') (max t (version_told e)) (max t' (version_told e')) r r' kept
            (subst (λ (M : Layout). Inv (editions_after E' e') M n s x' (feed b' e') (max t' (version_told e')))
            (one-edition (editions_after E e) (editions_after E' e') K K' (feed b e) (feed b' e') (max t (version_told e)) (max t' (version_told e')) kept kept' left)
            kept')
            left same.1 (covers-rest who owners e es c),
      )
  runs-both [] E E' L b b' t t' stop (go m' r') inv inv' pair same c = absurd same
  runs-both [] E E' L b b' t t' (go m r) r' inv inv' pair same c = absurd same
  runs-both (who ∷ owners) E E' L b b' t t' stop r' inv inv' pair same c = absurd same
  runs-both (who ∷ owners) E E' L b b' t t' (go m r) stop inv inv' pair same c = absurd same

-- a world is one of a pair with itself where nothing is held
fresh-pair : (of : ℕ → Bool) (L : Layout) (n s : ℕ) (area : List ℕ) → Pair of L n s (fresh_world area) (fresh_world area)
unfolding HeldBoth
fresh-pair of L n s area =
    record { alike = record { long = refl; views = record { digests = λ i l. refl; layouts = λ i l e. refl; scans = λ i l e. refl } }; held = tt }

-- Isolation, for either edition.
pub isolation : Isolation
isolation L n s area₀ area ab p owners es es' w w' run run' same apart =
    let start' = fresh n s L area₀ area ab p in
    runs-both n s (gives media owners es) owners (formatted_in L) (formatted_in L) L fresh_book fresh_book 0 0 run run' start' start'
    (fresh-pair (gives media owners es) L n s area) same (λ t h. outside t h (gives media owners es t) refl, λ t h. h)
  where
    outside : (t : ℕ) → gives servo owners es t ≡ true → (u : Bool) → gives media owners es t ≡ u → u ≡ false
    outside t h true e = absurd (apart t h e)
    outside t h false e = refl
