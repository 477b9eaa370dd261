use Rattle.std.proofs.Common.{◌≡◌, ◌∙◌, ◌++◌, ◌*◌, ◌≤◌, ap, length, arith}
use Rattle.std.proofs.Math.Nat.{mul-le-mul_left}
use Rattle.zarrs_array_bytes.specs.Filled.{copies}
use Rattle.zarrs_array_bytes.proofs.FillLemmas.{length-copies}
use Rattle.zarrs_chunk.specs.Runs.{joined_runs}
use Rattle.zarrs_bytes.proofs.Reading.{copies_of_places}
use Rattle.zarrs_bytes.proofs.bytes_codec_partial.fill_runs.Goals as goal

pub returns : goal.returns
returns c =
    let fill = c.args.fill.now in
    let places = joined_runs c.args.runs.now in
    let count = c.count_places-count.result in
    let bytes = c.append_copies.new.out in
    let is : bytes.items ≡ copies fill count = c.in_ok-append_copies.ensures.appended ∙ ap (λ xs. xs ++ copies fill count) c.in_ok-bytes.ensures.items in
    let one : 1 ≤ length fill = omega arith in
    let more : count * 1 ≤ count * length fill = mul-le-mul_left count one in
    let exact : count ≡ length places = omega (arith, more, ap length is, length-copies fill count, bytes.ok, bytes.small, c.count_places-count.ensures.count) in
    record { value = is ∙ ap (copies fill) exact ∙ copies_of_places fill places }
