use Rattle.std.proofs.Common.{rules, ◌≡◌, ℕ, ◌+◌, ◌<◌, List, Ok, length, map, slice_index, sym, ap, ◌∙◌, arith, subst, nat_lt, true}
use Rattle.std.specs.List.{All, list_all}
use Rattle.zarrs_chunk.specs.Runs.{joined_runs}
use Rattle.zarrs_chunk.specs.declared.codec_error.CodecError.TheVariants.{InvalidBytesLength}
use Rattle.zarrs_array_bytes.specs.Held.{vlen, masked, raw_of}
use Rattle.zarrs_array_bytes.specs.ArrayBytes.{held_of}
use Rattle.zarrs_array_bytes.specs.Elements.{cut}
use Rattle.zarrs_array_bytes.specs.Pieces.{bytes_with_offsets, variable_of}
use Rattle.zarrs_array_bytes.specs.Extracted.{container_selection}
use Rattle.zarrs_array_bytes.proofs.RunLemmas.{places_below}
use Rattle.zarrs_array_bytes.proofs.ValidLemmas.{raw_items, variable_fits, masked_fits, list_all-picked}
use Rattle.zarrs_array_bytes.proofs.ExtractCalls.{extracted_variable}
use Rattle.zarrs_array_bytes.proofs.array_bytes.ArrayBytes.+at_runs.Goals as goal

pub gather_cuts-requires-clause-inside : goal.gather_cuts-requires-clause-inside
gather_cuts-requires-clause-inside t c = λ k d l.
    let seen : c.args.self.now ≡ vlen (raw_of c.in-Variable.bytes) c.in-Variable.offsets = sym c.self.view_is ∙ ap held_of c.in-Variable.is in
    let count : length c.in-Variable.offsets ≡ c.args.count + 1 = variable_fits InvalidBytesLength c.args.data_type.now c.args.count _ _ (rw seen at c.requires.valid) in
    let ends : length c.as_slice-in-Variable-2.result.now ≡ length c.in-Variable.offsets = ap length c.as_slice-in-Variable-2.ensures.value in
    omega (arith, c.requires.inside k d l)

pub of_masked-requires : goal.of_masked-requires
of_masked-requires t c =
    let seen : c.args.self.now ≡ masked c.in-Optional.inner.value (raw_of c.in-Optional.mask) = sym c.self.view_is ∙ ap held_of c.in-Optional.is in
    let items : c.as_slice-in-Optional.result.now ≡ (raw_of c.in-Optional.mask).items = c.as_slice-in-Optional.ensures.value ∙ raw_items c.in-Optional.mask in
    let picked : map (slice_index c.as_slice-in-Optional.result.now) (joined_runs c.args.runs.now) ≡ c.in_ok-mask-in-Optional.mask.items = cc (c.in_ok-mask-in-Optional.ensures.exact.is) in
    let count : length (raw_of c.in-Optional.mask).items ≡ c.args.count = masked_fits InvalidBytesLength _ _ _ _ (rw seen at c.requires.valid) in
    let flags : List ℕ = (raw_of c.in-Optional.mask).items in
    let are : map (slice_index flags) (joined_runs c.args.runs.now) ≡ c.in_ok-mask-in-Optional.mask.items = rw items at picked in
    let inside : All (λ place. place < length flags) (joined_runs c.args.runs.now) = subst (λ n. All (λ place. place < n) (joined_runs c.args.runs.now)) (sym count) (places_below c.args.count c.args.runs.now c.requires.inside) in
    record {
      flags = subst (λ xs. list_all (λ b. nat_lt b 2) xs ≡ true) are
          (list_all-picked (λ b. nat_lt b 2) flags (joined_runs c.args.runs.now) (rw c.in-Optional.is at c.self.invariant) inside);
    }

pub returns-in_ok-bytes-in-Variable-clause-exact : goal.returns-in_ok-bytes-in-Variable-clause-exact
returns-in_ok-bytes-in-Variable-clause-exact t c =
    let seen : c.args.self.now ≡ vlen (raw_of c.in-Variable.bytes) c.in-Variable.offsets = sym c.self.view_is ∙ ap held_of c.in-Variable.is in
    let items : c.as_slice-in-Variable.result.now ≡ (raw_of c.in-Variable.bytes).items = c.as_slice-in-Variable.ensures.value ∙ raw_items c.in-Variable.bytes in
    let places = joined_runs c.args.runs.now in
    let both : bytes_with_offsets (cut c.as_slice-in-Variable-2.result.now c.as_slice-in-Variable.result.now) places ≡ (c.in_ok-bytes-in-Variable.bytes.items, c.in_ok-bytes-in-Variable.offsets.items) = cc (c.in_ok-bytes-in-Variable.ensures.exact.is) in
    let is : container_selection c.args.data_type.now (vlen (raw_of c.in-Variable.bytes) c.in-Variable.offsets) places ≡ variable_of (bytes_with_offsets (cut c.in-Variable.offsets (raw_of c.in-Variable.bytes).items) places) = extracted_variable InvalidBytesLength c.args.data_type.now c.args.count _ _ _ (rw seen at c.requires.valid) in
    record {
      is = ap Ok (ap (λ h. container_selection c.args.data_type.now h places) seen ∙ is ∙ ap (λ bs. variable_of (bytes_with_offsets (cut c.in-Variable.offsets bs) places)) (sym items)
          ∙ ap (λ os. variable_of (bytes_with_offsets (cut os c.as_slice-in-Variable.result.now) places)) (sym c.as_slice-in-Variable-2.ensures.value)
          ∙ ap variable_of both
          ∙ sym c.of_variable.ensures.made);
      no_fault = search rules;
    }
