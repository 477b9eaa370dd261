use Rattle.std.proofs.Common.{◌<◌, subst}
use Rattle.std.proofs.lemmas.Result.{err_from_is_err_and}
use Rattle.std.specs.List.{All}
use Rattle.zarrs_data_type.specs.Form.{form_of}
use Rattle.zarrs_chain.specs.ChainView.{plain_chain}
use Rattle.zarrs_chain.proofs.EncodedAgain.{reencoded_stands}
use Rattle.zarrs_chain.proofs.ReencodeSteps.{reading_refused, writing_refused, value_written}
use Rattle.zarrs_chain.proofs.reencode.reencode.Goals as goal

pub returns-in_err-elements : goal.returns-in_err-elements
returns-in_err-elements g c =
    let form = form_of c.args.shape.now c.args.data_type.now c.args.fill_value.now in
    let p = err_from_is_err_and c.from_residual.result c.from_residual.ensures.1 in
    rw (p.1, p.2) (record {
      reencodes = reading_refused g.B.BytesToBytesCodecTraits.functions (plain_chain c.args.from.now) g.C.BytesToBytesCodecTraits.functions (plain_chain c.args.to.now) form c.args.value.now c.in_err-elements.field-0.0 c.in_err-elements.ensures.decodes;
      decoded_again = λ chunk stands. tt;
    })

pub returns-in_err-written : goal.returns-in_err-written
returns-in_err-written g c =
    let form = form_of c.args.shape.now c.args.data_type.now c.args.fill_value.now in
    let p = err_from_is_err_and c.from_residual-in_err-written.result c.from_residual-in_err-written.ensures.1 in
    rw (p.1, p.2) (record {
      reencodes = writing_refused g.B.BytesToBytesCodecTraits.functions (plain_chain c.args.from.now) g.C.BytesToBytesCodecTraits.functions (plain_chain c.args.to.now) form c.args.value.now c.in_ok-elements.elements c.in_err-written.field-0.0
          c.chain_is_sound.ensures.mappings (subst (All (λ size. 0 < size)) c.as_slice.ensures.value c.as_slice.ensures.positive) c.in_ok-elements.ensures.decodes c.in_err-written.ensures.encodes;
      decoded_again = λ chunk stands. tt;
    })

pub returns : goal.returns
returns g c =
    let form = form_of c.args.shape.now c.args.data_type.now c.args.fill_value.now in
    record {
      reencodes = value_written g.B.BytesToBytesCodecTraits.functions (plain_chain c.args.from.now) g.C.BytesToBytesCodecTraits.functions (plain_chain c.args.to.now) form c.args.value.now c.in_ok-elements.elements c.in_ok-written.written c.owned.result
          c.chain_is_sound.ensures.mappings (subst (All (λ size. 0 < size)) c.as_slice.ensures.value c.as_slice.ensures.positive) c.in_ok-elements.ensures.decodes c.in_ok-written.ensures.encodes c.owned.ensures.answer;
      decoded_again = reencoded_stands g.B.BytesToBytesCodecTraits.functions (plain_chain c.args.from.now) g.C.BytesToBytesCodecTraits.functions (plain_chain c.args.to.now) form c.args.value.now c.in_ok-elements.elements c.in_ok-written.written c.owned.result
          c.in_ok-elements.ensures.decodes c.in_ok-written.ensures.decoded_again c.owned.ensures.answer;
    }
