use Rattle.std.proofs.Common.{◌≡◌, ℕ, List, ◌++◌, ◌/◌, ◌%◌, OnOk, ap, ◌∙◌, subst, append_assoc}
use Rattle.zarrs_array_bytes.specs.Filled.{copies}
use Rattle.zarrs_array_bytes.proofs.FillLemmas.{replicate-copies, copies-blocks, longer-twice}
use Rattle.zarrs_array_bytes.proofs.repeat.+append_blocks.Goals as goal

pub returns-in-len1 : goal.returns-in-len1
returns-in-len1 t c = record {
  appended =
      subst (λ (xs : List ℕ). OnOk c.append_byte.result (c.append_byte.new.out.items ≡ c.args.out.now.items ++ xs))
      (replicate-copies c.args.bytes.now c.args.count c.in-len1.len_at_least c.in-len1.len_below) c.append_byte.ensures.appended;
  behind = c.append_byte.ensures.behind;
}

pub returns : goal.returns
returns t c =
    let bytes = c.args.bytes.now in
    let count = c.args.count in
    let old = c.args.out.now.items in
    let block = c.as_slice.result.now in
    let rest = copies bytes (count % 16) in
    let is : block ≡ copies bytes 16
    = c.as_slice.ensures.value ∙ c.in_ok-append_each.ensures.appended ∙ ap (λ (xs : List ℕ). xs ++ copies bytes 16) c.in_ok-block.ensures.items in
    let all : c.append_blocks.new.out.items ++ rest ≡ old ++ copies bytes count
    = ap (λ (xs : List ℕ). xs ++ rest) c.in_ok-append_blocks.ensures.appended
    ∙ append_assoc old (copies block (count / 16)) rest
    ∙ ap (λ (xs : List ℕ). old ++ xs) (copies-blocks bytes block 16 count is) in
    record {
      appended = subst (λ (xs : List ℕ). OnOk c.append_each-3.result (c.append_each-3.new.out.items ≡ xs)) all c.append_each-3.ensures.appended;
      behind = longer-twice old c.append_blocks.new.out.items c.append_each-3.new.out.items (c.append_blocks.ensures.behind) c.append_each-3.ensures.behind;
    }
