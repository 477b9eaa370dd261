use Rattle.std.proofs.Common.{◌≡◌, ◌+◌, ◌-◌, ◌*◌, length, take, drop, ap, ◌∙◌, arith, subst}
use Rattle.std.proofs.lemmas.List.{take_rest}
use Rattle.zarrs_packbits.specs.Bits.{bits_of, low_bits}
use Rattle.zarrs_packbits.proofs.words.word_from.Goals as goal
use Rattle.zarrs_packbits.proofs.WordLemmas.{word_field, last_field}

pub returns-then-bytes-start-lt8 : goal.returns-then-bytes-start-lt8
returns-then-bytes-start-lt8 c = record {
  bits = λ n h l.
      let bytes = c.args.bytes.now in
      let start = c.args.start in
      let rest : take (length bytes - start) (drop start bytes) ≡ drop start bytes = take_rest bytes start in
      last_field bytes start n c.last_word.result c.requires.start l
      (subst (λ bs. low_bits (8 * length bs) c.last_word.result ≡ bits_of bs) rest c.last_word.ensures.bits);
}

pub returns : goal.returns
returns c = record {
  bits = λ n h l.
      let bytes = c.args.bytes.now in
      let start = c.args.start in
      let count : start + 8 - start ≡ 8 = omega arith in
      word_field bytes start n c.read_word.result h (omega arith)
      (c.read_word.ensures.bits ∙ ap bits_of (c.copy_from_slice.ensures.after ∙ ap (λ n. take n (drop start bytes)) count));
}
