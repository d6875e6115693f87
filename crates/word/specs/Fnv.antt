-- 32-bit FNV-1a, and the hash of a key at which the index's search starts (01, "Index").
use Rattle.std.specs.Prelude.{ℕ, ◌*◌, ◌%◌, List, [], ◌∷◌, ◌++◌}
use Rattle.std.specs.Int.Bits.{bit_xor}
use Rattle.word.specs.Number.{bytes_of}

-- a product as 32 bits keep it
abbrev pub wrapped : ℕ → ℕ → ℕ
wrapped x y = x * y % 4294967296

-- a byte taken into the hash: XOR first, then the product with the prime
unfoldable pub fnv_step : ℕ → ℕ → ℕ
fnv_step h b = wrapped (bit_xor h b) 16777619

unfoldable pub fnv_from : ℕ → List ℕ → ℕ
fnv_from h [] = h
fnv_from h (b ∷ bs) = fnv_from (fnv_step h b) bs

abbrev pub fnv1a : List ℕ → ℕ
fnv1a s = fnv_from 2166136261 s

-- of a key's six bytes as they are stored: table, then key
abbrev pub key_hash : ℕ → ℕ → ℕ
key_hash table key = fnv1a (bytes_of 2 table ++ bytes_of 4 key)
