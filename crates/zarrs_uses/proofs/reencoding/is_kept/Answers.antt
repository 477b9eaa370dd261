use Rattle.std.proofs.Common.{◌∙◌}
use Rattle.zarrs_codecs.specs.ChainView.{plain_chain}
use Rattle.zarrs_codecs.specs.Form.{form_of}
use Rattle.zarrs_uses.proofs.Conversions.{decoded_same}
use Rattle.zarrs_uses.proofs.reencoding.is_kept.Goals as goal

pub returns : goal.returns
returns g c =
    let f = g.B.BytesToBytesCodecTraits.functions in
    let codecs = g.C.BytesToBytesCodecTraits.functions in
    let form = form_of c.args.shape.now c.args.data_type.now c.args.fill_value.now in
    record {
      same = λ chunk stands keeps.
          c.eq.ensures
          ∙ decoded_same f (plain_chain c.args.from.now) codecs (plain_chain c.args.to.now) form c.args.value.now c.in_ok-new.new c.in_ok-before.before c.in_ok-after.after chunk c.in_ok-new.ensures.decoded_again c.in_ok-before.ensures.decodes c.in_ok-after.ensures.decodes
          c.in_ok-before.ensures.tight c.in_ok-after.ensures.tight (c.tight_containers_are_same.ensures.law form.type) stands keeps;
    }
