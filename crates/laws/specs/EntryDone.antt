-- A finished write or delete: what recovery gives, and what reading by the rule of versions gives of every key.
use Rattle.std.specs.Prelude.{ℕ, ◌+◌, ◌-◌, ◌*◌, ◌≤◌, ◌<◌, ◌≡◌, false, List, [], ◌∷◌, ◌++◌, length}
use Rattle.std.proofs.Common.{arith, sym, ap, subst, inr, leb-true}
use Rattle.std.proofs.Math.Decide.{ℕ_discrete}
use Rattle.std.proofs.Math.Path.{refl, subst⁻¹}
use Rattle.std.proofs.Math.Bool.{Bool, true}
use Rattle.std.proofs.Math.Option.{some}
use Rattle.word.specs.Number.{Bytes}
use Rattle.segment.specs.Choice.{pick}
use Rattle.segment.proofs.Choice.{both_left}
use Rattle.segment.specs.Layout.{Layout, digest_size}
use Rattle.segment.specs.Entry.{Entry, WellFormed, bytes_in, kind_of, encoded, size_of}
use Rattle.segment.proofs.EntryLaws.{length-encoded, formed-known}
use Rattle.segment.specs.Digest.{encoded_digest}
use Rattle.segment.specs.declared.Key.{Key}
use Rattle.slot_map.specs.Bit.{named}
use Rattle.slot_map.proofs.NextLaws.{next-clear}
use Rattle.record.specs.RangeLaws.{Lent, lent-switched}
use Rattle.record.specs.Switch.{new_layout, unswitched}
use Rattle.record.specs.declared.Record.{Record}
use Rattle.model.specs.Log.{Item, View, scan, items_of, views_of, highest, same_key}
use Rattle.model.specs.Recovery.{later, recovered}
use Rattle.model.specs.Operations.{log_now, fits_head, new_slot, new_digest, all_encoded, laid_append, laid_head, laid_entry, commit, plan_of, stored, appended_record, headed_record, entry_record}
use Rattle.laws.specs.Editions.{new-later}
use Rattle.laws.specs.Members.{Added}
use Rattle.laws.specs.Versions.{below-highest}
use Rattle.laws.specs.MapLaws.{value_at, gives, Above, value-added}
use Rattle.laws.specs.Stores.{length-stored}
use Rattle.laws.specs.Scans.{item_at, encoded-one}
use Rattle.laws.specs.AppendBytes.{append-other, append-digest, append-scan, append-layout}
use Rattle.laws.specs.NewHeadBytes.{head_plan, formed-one, new-head-other, new-head-view}
use Rattle.laws.specs.LogLaws.{entered-added}
use Rattle.laws.specs.RecoverLaws.{recovered-holds, recovered-scan, recovered-highest, recovered-apart, recovered-layout, recovered-edition}
use Rattle.laws.specs.Appended.{Appends, appended-entered, appended-recovered}
use Rattle.laws.specs.Headed.{none_within, Heads, SlotOrigin, heads-slots, headed-entered, headed-recovered}
use Rattle.laws.specs.Entering.{Roomy, Entering}
use Rattle.laws.specs.Planned.{new-below, new-map-fits, new-next-fits}

-- ---- the entry in its place

module _ (L : Layout) (area : List ℕ) (r : Record) (x : Entry) (e : recovered L r.slots r.size r.cells area ≡ some (unswitched r))
    (bytes : Bytes area) (f : Entering L area r x)
  where
    facts : Lent L r (length area) r.cells
    facts = lent-switched r (recovered-holds L r.slots r.size r.cells area (unswitched r) e)

    -- the edition of a new head
    abbrev new : Layout
    new = new_layout r

    own-edition : r.edition ≡ L
    own-edition = recovered-edition L r.slots r.size r.cells area (unswitched r) e

    up : later L new ≡ false
    up = subst (λ (K : Layout). later K new ≡ false) own-edition (new-later r)

    -- what is to be shown of the area and the record after the last store
    abbrev Done : List ℕ → Record → Type 0
    Done area' r' =
        (recovered r'.edition r.slots r.size r.cells area' ≡ some (unswitched r'))
        × ((j : Key) → value_at (log_now area' r') j ≡ pick (same_key j x) (gives x) (value_at (log_now area r) j))

    above : (K : Layout) (slot offset : ℕ) → Above (record { slot = slot; layout = K; offset = offset; entry = x }) (log_now area r)
    above K slot offset =
        below-highest (log_now area r) x.version (subst⁻¹ (λ (v : ℕ). highest (log_now area r) < v) f.takes.version (recovered-highest L r.slots r.size r.cells area (unswitched r) e))

    -- at the end of the head
    module _ (formed : WellFormed L x) (fits : r.end + size_of L x ≤ r.size) where
      abbrev append-plan : List (ℕ × ℕ)
      append-plan = commit r.size r.head r.end (encoded L x)

      abbrev items : List Item
      items = items_of (views_of area r.size r.head).scan

      append-views :
          Appends (views_of area r.size) (views_of (stored area append-plan) r.size) r.slots r.head (item_at r.end x)
          (r.end + size_of L x)
      append-views =
          record {
            others =
                λ i l o.
                append-other L r.slots r.size r.head area items r.end x facts.area-own facts.head-below
                (recovered-layout L r.slots r.size r.cells area (unswitched r) e) (recovered-scan L r.slots r.size r.cells area (unswitched r) e) formed fits i o;
            layout =
                append-layout L r.slots r.size r.head area items r.end x facts.area-own facts.head-below
                (recovered-layout L r.slots r.size r.cells area (unswitched r) e) (recovered-scan L r.slots r.size r.cells area (unswitched r) e) formed fits;
            digest =
                append-digest L r.slots r.size r.head area items r.end x facts.area-own facts.head-below
                (recovered-layout L r.slots r.size r.cells area (unswitched r) e) (recovered-scan L r.slots r.size r.cells area (unswitched r) e) formed fits;
            scan =
                append-scan L r.slots r.size r.head area items r.end x facts.area-own facts.head-below
                (recovered-layout L r.slots r.size r.cells area (unswitched r) e) (recovered-scan L r.slots r.size r.cells area (unswitched r) e) formed fits;
          }

      -- the log has the entry more, where the head ended
      pub appended-added :
          Added (log_now area r) (record { slot = r.head; layout = L; offset = r.end; entry = x })
          (log_now (stored area append-plan) (appended_record L r (log_now area r) x))
      appended-added =
          entered-added (log_now area r) (record { slot = r.head; layout = L; offset = r.end; entry = x })
          (log_now (stored area append-plan) (appended_record L r (log_now area r) x))
          (appended-entered L r.slots r.size r.cells area (stored area append-plan) (unswitched r) (item_at r.end x) e append-views)

      appended : Done (stored area append-plan) (appended_record L r (log_now area r) x)
      appended = (
        subst⁻¹
            (λ (K : Layout).
            recovered K r.slots r.size r.cells (stored area append-plan) ≡ some (unswitched (appended_record L r (log_now area r) x)))
            own-edition (appended-recovered L r.slots r.size r.cells area (stored area append-plan) (unswitched r) (item_at r.end x) e append-views
            (length-stored area append-plan) f.takes),
        value-added (log_now area r) (record { slot = r.head; layout = L; offset = r.end; entry = x })
            (log_now (stored area append-plan) (appended_record L r (log_now area r) x)) appended-added (above L r.head r.end)
            (recovered-apart L r.slots r.size r.cells area (unswitched r) e),
      )

    -- in a new head
    module _ (roomy : Roomy new) (no-fit : fits_head L r x ≡ false) where
      abbrev head-plan : List (ℕ × ℕ)
      head-plan = head_plan new r.size (new_slot r) (new_digest r 0) (x ∷ [])

      head-fits : digest_size new + length (all_encoded new (x ∷ [])) ≤ r.size
      head-fits =
          omega (
            arith,
            ap length (encoded-one new x),
            length-encoded new x,
            roomy.room (kind_of new x) (length (bytes_in x.value)) (formed-known new x f.formed-new),
            facts.size_low,
          )

      head-views :
          Heads new (views_of area r.size) (views_of (stored area head-plan) r.size) r.slots (new_slot r) (new_digest r 0) (x ∷ [])
      head-views =
          record {
            others = λ i l o. new-head-other new r.size (new_slot r) area (new_digest r 0) (x ∷ []) head-fits i o;
            own =
                new-head-view new (new_digest r 0) (x ∷ []) (omega (arith, f.number-left no-fit))
                (new-map-fits L area r e 0 (none_within r.map)) (new-next-fits L area r e bytes new up) (formed-one new x f.formed-new) r.slots
                r.size (new_slot r) area facts.area-own (new-below L area r e) head-fits;
          }

      -- the log has the entry more, behind the new digest
      headed-added-one :
          Added (log_now area r) (record { slot = new_slot r; layout = new; offset = digest_size new; entry = x })
          (log_now (stored area head-plan) (headed_record new r (log_now area r) x))
      headed-added-one =
          entered-added (log_now area r) (record { slot = new_slot r; layout = new; offset = digest_size new; entry = x })
          (log_now (stored area head-plan) (headed_record new r (log_now area r) x))
          (headed-entered L new up r.slots r.size r.cells area (stored area head-plan) (unswitched r) x e head-views)

      pub headed-added :
          Added (log_now area r) (record { slot = new_slot r; layout = new; offset = digest_size new; entry = x })
          (log_now
          (stored area ((new_slot r * r.size, 0) ∷ commit r.size (new_slot r) 0 (encoded_digest new (new_digest r 0) ++ encoded new x)))
          (headed_record new r (log_now area r) x))
      headed-added =
          subst
          (λ (b : List ℕ).
          Added (log_now area r) (record { slot = new_slot r; layout = new; offset = digest_size new; entry = x })
          (log_now (stored area ((new_slot r * r.size, 0) ∷ commit r.size (new_slot r) 0 (encoded_digest new (new_digest r 0) ++ b)))
          (headed_record new r (log_now area r) x)))
          (encoded-one new x) headed-added-one

      headed : Done (stored area head-plan) (headed_record new r (log_now area r) x)
      headed = (
        headed-recovered L new up r.slots r.size r.cells area (stored area head-plan) (unswitched r) x e head-views (length-stored area head-plan)
            (omega (arith, f.two-free no-fit)) f.takes,
        value-added (log_now area r) (record { slot = new_slot r; layout = new; offset = digest_size new; entry = x })
            (log_now (stored area head-plan) (headed_record new r (log_now area r) x)) headed-added-one (above new (new_slot r) (digest_size new))
            (recovered-apart L r.slots r.size r.cells area (unswitched r) e),
      )

    -- Whichever it is: recovery gives the record of 01's formulas, and the map is the old one with the key set or gone.
    pub entry_done :
        Roomy (new_layout r) →
        (recovered (entry_record L r (log_now area r) x).edition r.slots r.size r.cells
        (stored area (plan_of r ((laid_entry L r x).pending 0) (laid_entry L r x).bytes)) ≡ some (unswitched (entry_record L r (log_now area r) x)))
        × ((j : Key) →
        value_at (log_now (stored area (plan_of r ((laid_entry L r x).pending 0) (laid_entry L r x).bytes)) (entry_record L r (log_now area r) x)) j ≡
        pick (same_key j x) (gives x) (value_at (log_now area r) j))
    unfolding pick plan_of
    entry_done roomy = go (fits_head L r x) refl
      where
        goal : Bool → Type 0
        goal t = Done (stored area (plan_of r ((pick t (laid_append L x) (laid_head (new_layout r) r x)).pending 0) (pick t (laid_append L x) (laid_head (new_layout r) r x)).bytes)) (pick t (appended_record L r (log_now area r) x) (headed_record (new_layout r) r (log_now area r) x))

        go : (t : Bool) → fits_head L r x ≡ t → goal t
        go true p = appended (f.formed p) (leb-true (r.end + size_of L x) r.size (both_left _ _ p))
        go false p =
            subst
            (λ (b : List ℕ).
            Done (stored area ((new_slot r * r.size, 0) ∷ commit r.size (new_slot r) 0 (encoded_digest new (new_digest r 0) ++ b)))
            (headed_record new r (log_now area r) x))
            (encoded-one new x) (headed roomy p)

    -- Each log slot then is of the edition that the head has, or is one of before as it was.
    pub entry-slots :
        Roomy (new_layout r) → (i : ℕ) → i < r.slots → named (entry_record L r (log_now area r) x).map i ≡ true →
        SlotOrigin r (views_of area r.size) (views_of (stored area (plan_of r ((laid_entry L r x).pending 0) (laid_entry L r x).bytes)) r.size)
        (entry_record L r (log_now area r) x).edition i
    unfolding pick plan_of
    entry-slots roomy = go (fits_head L r x) refl
      where
        goal : Bool → Type 0
        goal t =
            (i : ℕ) → i < r.slots → named (pick t (appended_record L r (log_now area r) x) (headed_record (new_layout r) r (log_now area r) x)).map i ≡ true →
            SlotOrigin r (views_of area r.size)
            (views_of (stored area (plan_of r ((pick t (laid_append L x) (laid_head (new_layout r) r x)).pending 0) (pick t (laid_append L x) (laid_head (new_layout r) r x)).bytes)) r.size)
            (pick t (appended_record L r (log_now area r) x) (headed_record (new_layout r) r (log_now area r) x)).edition i

        go : (t : Bool) → fits_head L r x ≡ t → goal t
        go true p i l q = inr (q, same (ℕ_discrete i r.head))
          where
            views :
                Appends (views_of area r.size) (views_of (stored area (commit r.size r.head r.end (encoded L x))) r.size) r.slots r.head (item_at r.end x)
                (r.end + size_of L x)
            views = append-views (f.formed p) (leb-true (r.end + size_of L x) r.size (both_left _ _ p))

            same : Dec (i ≡ r.head) →
                (views_of (stored area (commit r.size r.head r.end (encoded L x))) r.size i).layout ≡ (views_of area r.size i).layout
            same (yes o) =
                subst
                (λ (j : ℕ).
                (views_of (stored area (commit r.size r.head r.end (encoded L x))) r.size j).layout ≡ (views_of area r.size j).layout)
                (sym o) views.layout
            same (no o) = ap (λ (w : View). w.layout) (views.others i l o)
        go false p i l q =
            subst
            (λ (b : List ℕ).
            SlotOrigin r (views_of area r.size)
            (views_of (stored area ((new_slot r * r.size, 0) ∷ commit r.size (new_slot r) 0 (encoded_digest new (new_digest r 0) ++ b))) r.size) new i)
            (encoded-one new x)
            (heads-slots new (views_of area r.size) (views_of (stored area (head-plan roomy p)) r.size) r 0 (new_digest r 0) (x ∷ []) (none_within r.map)
            (next-clear r.slots r.map r.head facts.head-below facts.some-free) (head-views roomy p) i l q)
