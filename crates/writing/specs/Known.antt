-- On a genuine store the index says of a key what the log does.
use Rattle.std.specs.Prelude.{ℕ, ◌-◌, ◌<◌, ◌≡◌, Bool, true, false, List, length}
use Rattle.std.proofs.Math.Path.{refl, sym, ap}
use Rattle.std.proofs.Common.{◌∙◌, arith}
use Rattle.std.proofs.Math.Option.{Option, none, some}
use Rattle.std.proofs.Math.ListN.{get_or}
use Rattle.segment.specs.Choice.{pick, is_none}
use Rattle.segment.specs.Layout.{Layout}
use Rattle.segment.specs.Area.{stands_at}
use Rattle.segment.proofs.AreaLaws.{stands-place}
use Rattle.segment.specs.Entry.{entry, entry_at, size_of, key_of, answer, is_tombstone, kind_of}
use Rattle.segment.specs.declared.Key.{Key}
use Rattle.segment.specs.declared.Read.{Read}
use Rattle.slot_map.specs.Bit.{named}
use Rattle.record.specs.RangeLaws.{Lent}
use Rattle.record.specs.Switch.{as_recovered}
use Rattle.record.specs.declared.Record.{Record}
use Rattle.model.specs.Log.{Placed, segment_of, place_of, views_of, latest, object_only, present, keys_of}
use Rattle.model.specs.Index.{HasCell, start_cell}
use Rattle.model.specs.Operations.{log_now}
use Rattle.model.specs.Refused.{version_in, key_facts}
use Rattle.model.specs.Promises.{Genuine}
use Rattle.laws.specs.Members.{In}
use Rattle.laws.specs.Latest.{latest-some, latest-has, latest-none, key-none}
use Rattle.laws.specs.LogLaws.{AllScanned}
use Rattle.laws.specs.RecoverLaws.{recovered-case, recovered-keys}
use Rattle.index.specs.Search.{probe, cell_has, search_for}
use Rattle.index.proofs.SearchLaws.{search-within}
use Rattle.index.proofs.Area.{area-picks}
use Rattle.index.proofs.BuildLaws.{log-in-area, log-reads}
use Rattle.index.specs.Finds.{Picks, FreeCell}
use Rattle.index.proofs.Finds.{search-known, search-new}
use Rattle.index.specs.declared.Found.{Found}
use Rattle.index.specs.declared.Found.TheVariants.{At, Free}
use Rattle.writing.specs.Tests.{facts_of, presence_of, presence_at, facts_for}

-- the facts of a key by its latest entry
entry-facts : (L : Layout) (x : Placed) →
    facts_of (presence_of (answer L (entry x.entry))) ≡ record { forbidden = false; in-log = true; absent = is_none (object_only (some x)); version = version_in (object_only (some x)) }
unfolding facts_of presence_of answer is_none version_in object_only pick
entry-facts L x = go (is_tombstone x.entry)
  where
    go : (t : Bool) →
        facts_of
        (presence_of
        (pick t (Read.Tombstone (key_of x.entry) (record { 0 = x.entry.version }) (size_of L x.entry))
        (Read.Object (key_of x.entry) (record { 0 = x.entry.version }) (kind_of L x.entry) (size_of L x.entry)))) ≡
        record { forbidden = false; in-log = true; absent = is_none (pick t none (some x)); version = version_in (pick t none (some x)) }
    go true = refl
    go false = refl

module _ (L : Layout) (area : List ℕ) (r : Record) (cells : List ℕ) (g : Genuine L area r cells) (h : Lent L r (length area) (length cells)) where
  scans : AllScanned (views_of area r.size) (named r.map) r.slots
  scans =
      recovered-case L r.slots r.size r.cells area (λ (x : Record). AllScanned (views_of area r.size) (named x.map) r.slots)
      (λ top l f. f.scans) (as_recovered r) g.recovers

  stands : (x : Placed) → In x (log_now area r) → entry_at x.layout (segment_of area r.size x.slot) x.offset ≡ entry x.entry
  stands x m = log-reads area r.size (named r.map) r.slots scans x m

  stands_at_lem : (x : Placed) → In x (log_now area r) → stands_at area (place_of r.size x) ≡ answer x.layout (entry x.entry)
  stands_at_lem x m = stands-place r.size area x.slot x.offset x.layout x.entry (stands x m)

  few : length (keys_of (log_now area r)) < length cells
  few =
      omega (
        arith,
        recovered-keys L r.slots r.size r.cells area (as_recovered r) g.recovers,
        h.keys-high,
        h.cells_low,
        h.index-own,
      )

  module _ (k : Key) where
    picks : Picks (cell_has area k) r.size (log_now area r) k
    picks = area-picks area r.size (log_now area r) k (log-in-area area r.size (named r.map) r.slots scans)

    within : search_for area cells k ≡ probe (cell_has area k) cells (length cells) (start_cell (length cells) k)
    within = search-within area cells k (omega (arith, h.index-own, h.cells-high))

    -- Nothing of the key in the log, and its latest entry x: what the search finds.
    no-entry : latest (log_now area r) k ≡ none → (c : FreeCell cells k) × (search_for area cells k ≡ Free c.cell)
    no-entry e = let f = search-new r.size (log_now area r) cells g.rule (cell_has area k) k picks e few in (f.0, within ∙ f.1)

    an-entry : (x : Placed) → latest (log_now area r) k ≡ some x → (c : HasCell r.size cells x) × (search_for area cells k ≡ At c.cell)
    an-entry x e = let f = search-known r.size (log_now area r) cells g.rule (cell_has area k) k picks x e in (f.0, within ∙ f.1)

    -- so the code's facts of a key are the log's
    pub genuine-facts : facts_for area cells k ≡ key_facts (log_now area r) k
    unfolding facts_of presence_at present is_none version_in object_only
    genuine-facts = go (latest (log_now area r) k) refl
      where
        go : (o : Option Placed) → latest (log_now area r) k ≡ o → facts_for area cells k ≡ key_facts (log_now area r) k
        go none e =
            let has = sym (key-none (log_now area r) k (latest-none (log_now area r) k e)) in
            let absent = sym (ap (λ (o : Option Placed). is_none (object_only o)) e) in
            let version = sym (ap (λ (o : Option Placed). version_in (object_only o)) e) in
            ap (λ (f : Found). facts_of (presence_at area cells f)) (no-entry e).1
            ∙ λ i. record { forbidden = false; in-log = has i; absent = absent i; version = version i }
        go (some x) e =
            let w = an-entry x e in
            let place : get_or cells w.0.cell 0 - 1 ≡ place_of r.size x = omega (arith, w.0.holds) in
            let has = sym (latest-has (log_now area r) k x e) in
            let absent = sym (ap (λ (o : Option Placed). is_none (object_only o)) e) in
            let version = sym (ap (λ (o : Option Placed). version_in (object_only o)) e) in
            ap (λ (f : Found). facts_of (presence_at area cells f)) w.1
            ∙ ap (λ (p : ℕ). facts_of (presence_of (stands_at area p))) place
            ∙ ap (λ (y : Read). facts_of (presence_of y)) (stands_at_lem x (latest-some (log_now area r) k x e).member)
            ∙ entry-facts x.layout x
            ∙ λ i. record { forbidden = false; in-log = has i; absent = absent i; version = version i }
