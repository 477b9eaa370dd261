use Rattle.std.proofs.Common.{◌≡◌, ◌++◌, ◌-◌, ◌∷◌, [], List, ℕ, Result, Ok, None, length, ap, sym, rules, ◌∙◌, arith}
use Rattle.std.proofs.lemmas.List.{length-append}
use Rattle.zarrs_array_bytes.specs.Pieces.{pieces_at}
use Rattle.zarrs_chunk.specs.declared.codec_error.CodecError.{CodecError}
use Rattle.zarrs_shard_bytes.specs.InnerPlaces.{places_from}
use Rattle.zarrs_chain.specs.sharding.ShardWalk.{kept_part}
use Rattle.zarrs_shard_bytes.specs.WrittenShard.{written_with}
use Rattle.zarrs_chain.proofs.KeptInner.{given_as, kept_none, kept_some}
use Rattle.zarrs_chain.proofs.sharding.kept_inner_chunk.write_kept.Goals as goal

pub returns-then-runs_repeat : goal.returns-then-runs_repeat
returns-then-runs_repeat c =
    let item = c.args.item.now in
    let bytes = c.args.bytes.now in
    let old = c.args.written.now in
    let places = places_from c.args.start c.args.runs.now in
    let none = sym (kept_none item bytes places (sym c.runs_repeat.ensures.value ∙ c.if-runs_repeat.true)) in
    let same : ◌≡◌ {A = Result (List ℕ × List ℕ) CodecError} (Ok (written_with (old.bytes.items, old.numbers.items) None)) (Ok (written_with (old.bytes.items, old.numbers.items) (kept_part item bytes places))) =
    ap (λ part. Ok (written_with (old.bytes.items, old.numbers.items) part)) none in
    record { answer = given_as _ _ _ _ same c.leave_out.ensures.answer }

pub returns : goal.returns
returns c =
    let item = c.args.item.now in
    let bytes = c.args.bytes.now in
    let old = c.args.written.now in
    let places = places_from c.args.start c.args.runs.now in
    let part = pieces_at (length item) bytes places in
    let out : c.append_runs.new.out.items ≡ old.bytes.items ++ part = search rules in
    let offset : c.len-offset.result ≡ length old.bytes.items = search rules in
    let some = sym (kept_some item bytes places (sym c.runs_repeat.ensures.value ∙ c.if-runs_repeat.false)) in
    let long : length c.append_runs.new.out.items - c.len-offset.result ≡ length part = omega (arith, ap length out, length-append old.bytes.items part, offset) in
    let same : ◌≡◌ {A = Result (List ℕ × List ℕ) CodecError} (Ok (c.append_runs.new.out.items, old.numbers.items ++ c.len-offset.result ∷ (length c.append_runs.new.out.items - c.len-offset.result) ∷ [])) (Ok (written_with (old.bytes.items, old.numbers.items) (kept_part item bytes places))) =
    (λ i. Ok (out i, old.numbers.items ++ offset i ∷ long i ∷ [])) ∙ (λ i. Ok (written_with (old.bytes.items, old.numbers.items) (some i))) in
    record { answer = given_as _ _ _ _ same c.list_from.ensures.answer }
