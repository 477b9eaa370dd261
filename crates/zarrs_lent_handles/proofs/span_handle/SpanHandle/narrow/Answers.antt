use Rattle.zarrs_lent_handles.proofs.SpanLemmas.{span_of_span}
use Rattle.zarrs_lent_handles.proofs.span_handle.SpanHandle.narrow.Goals as goal

pub returns-clause-made : goal.returns-clause-made
returns-clause-made g c = span_of_span c.args.self.now.at c.args.self.now.len c.args.at c.args.len (g.H.BytesPartialDecoderTraits.state c.args.self.now.handle.now) c.requires.inside
