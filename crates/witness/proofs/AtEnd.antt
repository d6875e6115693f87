-- What recovery at the end of the computed run gives a reader.
use Rattle.std.specs.Prelude.{ℕ, ◌<◌, ◌≡◌, List, [], Ok, Err}
use Rattle.record.specs.Answered.{Reading, ReadAnswer, Recovery, RecoverAnswer}
use Rattle.record.specs.declared.Refusal.{Refusal}
use Rattle.record.specs.Reach.{all_tables}
use Rattle.model.specs.Promises.{ReadPromise, Part, part_of, ValuePromise}
use Rattle.witness.specs.Example.{nine, ten, threes}
use Rattle.witness.proofs.Example.{all}

-- What that gives a reader: recovery is accepted, the next version is 4, above the 3 that the delete and the 2 that the last read was
-- told, the deleted key answers 8 with an empty value, and the other key its version, kind and value.
pub record Left (cells' : List ℕ) (r : Recovery) : Type 0 where
  pub is-accepted : r.answer ≡ (Ok tt)
  pub next-version : r.rec.next.0 ≡ 4
  pub above-steps : 3 < r.rec.next.0
  pub above-reads : 2 < r.rec.next.0
  pub absent :
      (a : Reading) → ReadPromise r.rec.edition r.rec all.world.area cells' all_tables nine a → a.answer ≡ Err Refusal.Absent
  pub no_value : (p : Part) → ValuePromise r.rec.edition r.rec all.world.area cells' all_tables nine p → part_of all.world.area p ≡ []
  pub present :
      (a : Reading) → ReadPromise r.rec.edition r.rec all.world.area cells' all_tables ten a → a.answer ≡ Ok (record { version = (record { 0 = 2 }); kind = 2 })
  pub value : (p : Part) → ValuePromise r.rec.edition r.rec all.world.area cells' all_tables ten p → part_of all.world.area p ≡ threes
