-- Questions in two worlds that differ in hidden values alone: a read answers the same, and so does a read of a value that is not
-- hidden.
use Rattle.std.specs.Prelude.{Ok}
use Prim.Native.Nat.{ℕ, ◌+◌}
use native.Mathlib.Omega.{arith}
use mathlib.Core.Path.{◌≡◌, refl, sym, ap, ◌∙◌, subst}
use mathlib.Core.Bool.{Bool, true, false, not}
use mathlib.Core.List.{List, []}
use mathlib.Core.Option.{Option, none, some}
use Rattle.word.specs.Number.{Bytes}
use lib.Dec.{ltb}
use Rattle.segment.specs.Choice.{pick, both, is_none}
use Rattle.segment.specs.Layout.{Layout, digest_size}
use Rattle.segment.specs.Entry.{bytes_in, is_tombstone, key_of}
use Rattle.segment.specs.declared.Key.{Key}
use Rattle.record.specs.Answers.{read_said}
use Rattle.slot_map.specs.Bit.{named}
use Rattle.record.specs.Pairs.{join_said}
use Rattle.record.specs.Switch.{new_layout, as_recovered}
use Rattle.record.specs.Answered.{Joined, Reading, ReadAnswer}
use Rattle.record.specs.declared.Refusal.{Refusal}
use Rattle.record.specs.declared.Record.{Record}
use Rattle.record.specs.declared.Tables.{Tables}
use Rattle.model.specs.Log.{Placed, latest, object_only, present}
use Rattle.model.specs.Causes.{Cause, first_cause}
use Rattle.model.specs.Operations.{log_now}
use Rattle.model.specs.Refused.{Lengths, kept_length, read_causes}
use Rattle.model.specs.Joining.{pair_of, join_fits, lowest_pair, join_pair, join_causes, join_answer, JoinPromise}
use Rattle.model.specs.Promises.{Genuine, read_lengths, read_answer, present_answer, ReadPromise, Part, part_of, value_part, value_answer, ValuePromise}
use Rattle.laws.specs.Latest.{same_key_lem, latest-some}
use Rattle.laws.specs.Operated.{OperationLaws}
use Rattle.isolation.proofs.HiddenBytes.{hidden_value, hidden_log, hidden_one, value-kind, value-told, present-hidden}
use Rattle.isolation.proofs.Alike.{Alike, logs-same}
use Rattle.isolation.proofs.Operations.{absent-hidden, kept-long-hidden}

-- ---- the object of a key

-- it is of that key
present-key : (log : List Placed) (k : Key) (x : Placed) → present log k ≡ some x → k ≡ key_of x.entry
unfolding present object_only pick
present-key log k x e = go (latest log k) refl e
  where
    go : (y : Option Placed) → latest log k ≡ y → object_only y ≡ some x → k ≡ key_of x.entry
    go none p q = let z : ◌≡◌ {A = ℕ} 0 1 = cc in absurd (omega arith)
    go (some y) p q = by_kind (is_tombstone y.entry) q
      where
        by_kind : (t : Bool) → pick t none (some y) ≡ some x → k ≡ key_of x.entry
        by_kind true r = let z : ◌≡◌ {A = ℕ} 0 1 = cc in absurd (omega arith)
        by_kind false r = subst (λ (w : Placed). k ≡ key_of w.entry) (same r) (same_key_lem k y.entry (latest-some log k y p).of-key)
          where
            same : ◌≡◌ {A = Option Placed} (some y) (some x) → y ≡ x
            same c = cc

-- its value, empty where there is none
unfoldable pub value_in : Option Placed → List ℕ
value_in none = []
value_in (some x) = bytes_in x.entry.value

module _ (of : ℕ → Bool) where
  -- where the key's table is not hidden the object is told whole
  told-whole : (log : List Placed) (k : Key) → of k.table ≡ false → hidden_one of (present log k) ≡ present log k
  unfolding hidden_one
  told-whole log k e = go (present log k) refl
    where
      go : (o : Option Placed) → present log k ≡ o → hidden_one of o ≡ o
      go none p = refl
      go (some x) p = λ i. some (record { slot = x.slot; layout = x.layout; offset = x.offset; entry = record { table = x.entry.table; key = x.entry.key; version = x.entry.version; value = value i } })
        where
          value : hidden_value (of x.entry.table) x.entry.value ≡ x.entry.value
          value =
              ap (λ (t : Bool). hidden_value t x.entry.value) (ap (λ (j : Key). of j.table) (sym (present-key log k x p)) ∙ e) ∙
              value-told x.entry.value

  pub one_same : (log log' : List Placed) (k : Key) → hidden_log of log ≡ hidden_log of log' → hidden_one of (present log k) ≡ hidden_one of (present log' k)
  one_same log log' k e = sym (present-hidden of log k) ∙ ap (λ (l : List Placed). present l k) e ∙ present-hidden of log' k

  pub objects-same : (log log' : List Placed) (k : Key) → hidden_log of log ≡ hidden_log of log' → of k.table ≡ false → present log k ≡ present log' k
  objects-same log log' k e t = sym (told-whole log k t) ∙ one_same log log' k e ∙ told-whole log' k t

  -- ---- version and kind

  answer-hidden : (c : Option Refusal) (o : Option Placed) → read_answer c (hidden_one of o) ≡ read_answer c o
  unfolding read_answer present_answer hidden_one
  answer-hidden (some c) o = refl
  answer-hidden none none = refl
  answer-hidden none (some x) =
      ap ((λ z0. Ok (record { version = (record { 0 = x.entry.version }); kind = z0 }))) (value-kind x.layout (of x.entry.table) x.entry.value)

  -- the same cause tells the same
  pub told_same :
      (c : Option Refusal) (log log' : List Placed) (k : Key) → hidden_log of log ≡ hidden_log of log' →
      read_answer c (present log k) ≡ read_answer c (present log' k)
  told_same c log log' k logs =
      sym (answer-hidden c (present log k)) ∙ ap (read_answer c) (one_same log log' k logs) ∙ answer-hidden c (present log' k)

  pub absent-same : (log log' : List Placed) (k : Key) → hidden_log of log ≡ hidden_log of log' → is_none (present log k) ≡ is_none (present log' k)
  absent-same log log' k logs = sym (absent-hidden of of log k) ∙ ap (λ (x : List Placed). is_none (present x k)) logs ∙ absent-hidden of of log' k

  module _ (L : Layout) (r : Record) (l : Lengths) (log log' : List Placed) (logs : hidden_log of log ≡ hidden_log of log') (u : Tables) (k : Key) where
    pub reads-refused : first_cause (read_causes L r log l u k) ≡ first_cause (read_causes L r log' l u k)
    reads-refused = rw (absent-same log log' k logs)

    pub answers-same :
        read_answer (first_cause (read_causes L r log l u k)) (present log k) ≡ read_answer (first_cause (read_causes L r log' l u k)) (present log' k)
    answers-same =
        told_same (first_cause (read_causes L r log l u k)) log log' k logs ∙
        ap (λ (c : Option Refusal). read_answer c (present log' k)) reads-refused

-- ---- in two worlds

module _ (of : ℕ → Bool) (L : Layout) (laws : OperationLaws L) (area area' cells cells' : List ℕ) (r : Record)
    (alike : Alike of r.slots r.size r.map area area') (g : Genuine L area r cells) (g' : Genuine L area' r cells')
    (lent : read_lengths area cells ≡ read_lengths area' cells') (u : Tables) (k : Key)
  where
    abbrev log : List Placed
    log = log_now area r

    abbrev log' : List Placed
    log' = log_now area' r

    logs : hidden_log of log ≡ hidden_log of log'
    logs = logs-same of r area area' alike

    abbrev causes : List Placed → List ℕ → List ℕ → List Cause
    causes l ar ce = read_causes L r l (read_lengths ar ce) u k

    pub read-both : (a a' : Reading) → ReadPromise L r area cells u k a → ReadPromise L r area' cells' u k a' → read_said a.answer ≡ read_said a'.answer
    read-both a a' p p' =
        ap read_said
        (p.exact g ∙ answers-same of L r (read_lengths area cells) log log' logs u k ∙
        ap (λ (l : Lengths). read_answer (first_cause (read_causes L r log' l u k)) (present log' k)) lent ∙ sym (p'.exact g'))

    -- what stands where the value is
    value-at :
        (ar ce : List ℕ) → Bytes ar → Genuine L ar r ce → (o : Option Placed) → present (log_now ar r) k ≡ o →
        part_of ar (value_part r.size o) ≡ value_in o
    unfolding value_part value_in
    value-at ar ce ab x none e = refl
    value-at ar ce ab x (some y) e = laws.value-part ar (as_recovered r) ab x.recovers k y e

    -- The value is the same where its table is not hidden, and where none is given.
    pub value-both :
        Bytes area → Bytes area' → (p p' : Part) → (first_cause (causes log area cells) ≡ none → of k.table ≡ false) → ValuePromise L r area cells u k p →
        ValuePromise L r area' cells' u k p' → part_of area p ≡ part_of area' p'
    unfolding value_answer
    value-both ab ab' p p' told q q' = ap (part_of area) (q.exact g) ∙ go (first_cause (causes log area cells)) refl ∙ sym (ap (part_of area') exact')
      where
        exact' : p' ≡ value_answer r.size (first_cause (causes log area cells)) (present log' k)
        exact' =
            q'.exact g' ∙
            ap (λ (c : Option Refusal). value_answer r.size c (present log' k))
            (sym (reads-refused of L r (read_lengths area cells) log log' logs u k ∙ ap (λ (l : Lengths). first_cause (read_causes L r log' l u k)) lent))

        go :
            (c : Option Refusal) → first_cause (causes log area cells) ≡ c →
            part_of area (value_answer r.size c (present log k)) ≡ part_of area' (value_answer r.size c (present log' k))
        go (some c) e = refl
        go none e =
            value-at area cells ab g (present log k) refl ∙ ap value_in (objects-same of log log' k logs (told e)) ∙
            sym (value-at area' cells' ab' g' (present log' k) refl)

-- ---- which two slots to join: what a cleaning keeps is of one length in both

module _ (of : ℕ → Bool) (L : Layout) (area area' cells cells' : List ℕ) (r : Record)
    (alike : Alike of r.slots r.size r.map area area') (g : Genuine L area r cells) (g' : Genuine L area' r cells')
    (lent : read_lengths area cells ≡ read_lengths area' cells')
  where
    kept-long : (W : Layout) (victims : ℕ) → kept_length W (log_now area r) victims ≡ kept_length W (log_now area' r) victims
    kept-long W victims =
        sym (kept-long-hidden of of W (log_now area r) victims) ∙
        ap (λ (l : List Placed). kept_length W l victims) (logs-same of r area area' alike) ∙
        kept-long-hidden of of W (log_now area' r) victims

    pairs-same : join_pair r (log_now area r) ≡ join_pair r (log_now area' r)
    unfolding join_fits
    pairs-same =
        λ t.
        lowest_pair
        (λ i j. both (both (named r.map i) (named r.map j)) (not (ltb r.size (digest_size (new_layout r) + kept-long (new_layout r) (pair_of i j) t))))
        r.slots

    pub join-both : (a a' : Joined) → JoinPromise L r area cells a → JoinPromise L r area' cells' a' → join_said a.answer ≡ join_said a'.answer
    join-both a a' p p' =
        ap join_said
        (p.exact g ∙
        (λ t. join_answer (first_cause (join_causes L r (lent t) (pairs-same t))) (pairs-same t)) ∙ sym (p'.exact g'))
