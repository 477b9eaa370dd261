use Rattle.std.proofs.Common.{◌≡◌, IfOk, Option, Some, List, ℕ, false, Result, sym, subst}
use Rattle.zarrs_chunk.specs.Answer.{is_fault, memory}
use Rattle.zarrs_chunk.specs.declared.codec_error.CodecError.{CodecError}
use Rattle.zarrs_array_bytes.specs.Held.{Held}
use Rattle.zarrs_array_bytes.specs.Tight.{IsTight}
use Rattle.zarrs_json.specs.HeaderRead.{header_seen}
use Rattle.zarrs_c_calls.specs.Reads.{ReadsForm}
use Rattle.zarrs_c_calls.proofs.fetched.read_whole.Goals as goal

pub returns : goal.returns
returns g c =
    let form = c.args.form.now in
    let same = sym c.handed_on.ensures.same in
    record {
      answer = subst (λ (r : Result Held CodecError). ReadsForm memory form (Some c.args.value.now) c.args.indexer.now r) same
          (subst (λ (v : Option (List ℕ)). ReadsForm memory form v c.args.indexer.now c.read_part.result) c.new.ensures.made c.read_part.ensures.answer);
      tight = subst (λ (r : Result Held CodecError). IfOk r (IsTight (header_seen form).data_type)) same c.read_part.ensures.tight;
      no_fault = subst (λ (r : Result Held CodecError). is_fault r ≡ false) same c.read_part.ensures.no_fault;
    }
