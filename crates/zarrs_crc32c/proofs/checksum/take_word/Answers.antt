use Rattle.std.proofs.Common.{ℕ, ◌<◌, ◌^◌, bit_xor, rules}
use Rattle.std.proofs.lemmas.Nat.{xor_lt}
use Rattle.zarrs_crc32c.proofs.Registers.{by_bytes}
use Rattle.zarrs_crc32c.proofs.checksum.take_word.Goals as goal

pub returns : goal.returns
returns c =
    let mixed : ℕ = bit_xor c.args.register c.args.word in
    let small : mixed < 2 ^ 64 = xor_lt 64 c.args.register c.args.word (search rules) (search rules) in
    let bytes = by_bytes mixed small in
    record { value = cc }
