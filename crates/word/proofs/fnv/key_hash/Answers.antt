-- `word::fnv::key_hash` meets its contract.
use Rattle.word.specs.Laws.{low-first, fnv_from-append}
use Rattle.word.proofs.fnv.key_hash.Goals as goal

pub returns : goal.returns
returns c =
    let a = c.args in
    rw (c.hash_on-2.ensures, c.hash_on.ensures, c.to_le_bytes.ensures, c.to_le_bytes-2.ensures, low-first 2 a.table, low-first 4 a.key, fnv_from-append)
