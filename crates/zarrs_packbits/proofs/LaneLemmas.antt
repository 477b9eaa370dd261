-- Components that stand side by side in a word.
use Rattle.std.proofs.Common.{◌≡◌, ℕ, ◌+◌, ◌-◌, ◌*◌, ◌/◌, ◌%◌, ◌^◌, ◌<◌, ◌≤◌, List, ◌++◌, length, take, drop, replicate, arith, ap, sym, subst, ◌∙◌, lit<}
use Rattle.std.specs.Prelude.{bit_or}
use Rattle.std.specs.List.{flat_map, range_with_len}
use Rattle.std.proofs.Math.Nat.{mul-le-mul_left, mul-le-mul_right, pow-le-pow_right, div-mul-le_self}
use Rattle.std.proofs.lemmas.List.{append_assoc, drop-drop}
use Rattle.std.proofs.lemmas.Nat.{shl_whole, or_comm, or_shifted, pow-add, pow_pos}
use Rattle.zarrs_packbits.specs.Bits.{low_bits, bits_of, field}
use Rattle.zarrs_packbits.specs.BitStream.{components_from}
use Rattle.zarrs_packbits.specs.BlockBits.{stream_before}
use Rattle.zarrs_packbits.specs.KeptBits.{component_bits, full_component, top_of}
use Rattle.zarrs_packbits.specs.declared.layout.PackedLayout.{PackedLayout}
use Rattle.zarrs_packbits.proofs.BlockLemmas.{components_more}
use Rattle.zarrs_packbits.proofs.FieldLemmas.{flat_more}
use Rattle.zarrs_packbits.proofs.ElementBits.{flat_split}
use Rattle.zarrs_packbits.proofs.LocalLemmas.{flat_range_same, field_of_part}
use Rattle.zarrs_array_bytes.proofs.Pieces.{take-drop-take}
use Rattle.zarrs_packbits.proofs.LowBits.{low_bits-cat, low_bits-zero}
use Rattle.zarrs_packbits.proofs.WordLemmas.{field_within, low_bits-take}

-- a lane ends where all of them end, at the latest
pub lane_inside : (lane lanes size all : ℕ) → lane < lanes → lanes * size ≤ all → lane * size + size ≤ all
lane_inside lane lanes size all h l =
    let more : lane + 1 ≤ lanes = omega arith in
    let row : (lane + 1) * size ≤ lanes * size = mul-le-mul_right size more in
    let next : (lane + 1) * size ≡ lane * size + size = omega arith in
    omega arith

-- those of whole words, and the rest
pub parts_inside : (at parts lanes count : ℕ) → (at + parts / lanes * (lanes * count) ≤ at + parts * count) × (at + parts / lanes * lanes * count + (parts - parts / lanes * lanes) * count ≡ at + parts * count)
parts_inside at parts lanes count =
    let done = parts / lanes * lanes in
    let less : done ≤ parts = div-mul-le_self parts lanes in
    let row : done * count ≤ parts * count = mul-le-mul_right count less in
    let same : parts / lanes * (lanes * count) ≡ done * count = regroup (parts / lanes) lanes count in
    let sum : done * count + (parts - done) * count ≡ parts * count = join done (parts - done) count ∙ ap (λ n. n * count) (let e : done + (parts - done) ≡ parts = omega arith in e) in
    (omega arith, omega arith)
  where
    regroup : (a b c : ℕ) → a * (b * c) ≡ a * b * c
    regroup a b c = omega arith

    join : (a b c : ℕ) → a * c + b * c ≡ (a + b) * c
    join a b c = omega arith

-- the words of a chunk's components are bytes of it
pub word_inside : (parts group lanes size width len : ℕ) → len ≡ parts * size → 8 * size ≡ width → lanes * width ≡ 64 → group < parts / lanes → (group * lanes + lanes ≤ parts) × (8 * group + 8 ≤ len)
word_inside parts group lanes size width len is wide all lt =
    let each : lanes * (8 * size) ≡ 64 = ap (λ n. lanes * n) wide ∙ all in
    let eight : lanes * size ≡ 8 = omega arith in
    let within : group * lanes + lanes ≤ parts = lane_inside group (parts / lanes) lanes parts lt (div-mul-le_self parts lanes) in
    let row : (group * lanes + lanes) * size ≤ parts * size = mul-le-mul_right size within in
    let next : (group * lanes + lanes) * size ≡ group * 8 + 8 = regroup group lanes size ∙ ap (λ n. group * n + n) eight in
    (within, omega arith)
  where
    regroup : (a b c : ℕ) → (a * b + b) * c ≡ a * (b * c) + b * c
    regroup a b c = omega arith

-- a number in its lane, beside those of the lanes before
pub lane_value : (s size word part : ℕ) → s + size ≤ 64 → word < 2 ^ s → part < 2 ^ size → bit_or word (part * 2 ^ s % 2 ^ 64) ≡ part * 2 ^ s + word
lane_value s size word part fits below small =
    ap (bit_or word) (shl_whole part size s 64 small (omega arith)) ∙ or_comm word (part * 2 ^ s) ∙ or_shifted part s word below

pub lane_below : (s size word part : ℕ) → word < 2 ^ s → part < 2 ^ size → part * 2 ^ s + word < 2 ^ (s + size)
lane_below s size word part below small =
    let q : part + 1 ≤ 2 ^ size = omega arith in
    omega (arith, pow-add 2 s size, mul-le-mul_right (2 ^ s) q)

-- one lane more
pub record LaneIs (f : ℕ → List ℕ) (lanes size word : ℕ) : Type 0 where
  pub bits : low_bits (lanes * size) word ≡ flat_map f (range_with_len 0 lanes)
  pub below : word < 2 ^ (lanes * size)

pub lane_more : (f : ℕ → List ℕ) (lane size word part : ℕ) → part < 2 ^ size → low_bits size part ≡ f lane → LaneIs f lane size word → LaneIs f (lane + 1) size (part * 2 ^ (lane * size) + word)
lane_more f lane size word part small here before =
    let s = lane * size in
    let sum : (lane + 1) * size ≡ s + size = omega arith in
    record {
      bits = ap (λ n. low_bits n (part * 2 ^ s + word)) sum
          ∙ low_bits-cat s size word part before.below
          ∙ ap (λ (xs : List ℕ). xs ++ low_bits size part) before.bits
          ∙ ap (λ (xs : List ℕ). flat_map f (range_with_len 0 lane) ++ xs) here
          ∙ sym (flat_more f lane);
      below = rw sum (lane_below s size word part before.below small);
    }

-- some bits of a number
pub field_of_low : (n word at count : ℕ) → at + count ≤ n → low_bits count (word / 2 ^ at % 2 ^ count) ≡ field at count (low_bits n word)
field_of_low n word at count h =
    field_within (low_bits n word) 0 at count word (sym (low_bits-take (at + count) n word h))
    ∙ ap (λ k. field k count (low_bits n word)) (let e : 0 + at ≡ at = omega arith in e)

-- a component in its lane, without what stands below its kept bits
pub spread_more : (l : PackedLayout) (lane lanes width word kept part component : ℕ) → l.first + l.count + l.above ≡ width → lanes * width ≡ 64 → lane < lanes → part ≡ kept / 2 ^ (lane * l.count) % 2 ^ l.count → low_bits (0 + l.count + l.above) component ≡ full_component 0 l.above l.sign (low_bits l.count part) → component < 2 ^ (0 + l.count + l.above)
    → LaneIs (λ part. full_component l.first l.above l.sign (field (0 + part * l.count) l.count (low_bits (lanes * l.count) kept))) lane width (word * 2 ^ l.first)
    → LaneIs (λ part. full_component l.first l.above l.sign (field (0 + part * l.count) l.count (low_bits (lanes * l.count) kept))) (lane + 1) width (bit_or word (component * 2 ^ (lane * width) % 2 ^ 64) * 2 ^ l.first)
spread_more l lane lanes width word kept part component size all lt is made fits before =
    let all_bits = low_bits (lanes * l.count) kept in
    let f : ℕ → List ℕ = λ part. full_component l.first l.above l.sign (field (0 + part * l.count) l.count all_bits) in
    let s = lane * width in
    let room : s + width ≤ 64 = lane_inside lane lanes width 64 lt (omega arith) in
    let high = l.count + l.above in
    let small : component < 2 ^ high = (let e : 0 + l.count + l.above ≡ high = omega arith in rw e at fits) in
    let some : 1 ≤ 2 ^ l.first = pow_pos l.first in
    let wider : word * 1 ≤ word * 2 ^ l.first = mul-le-mul_left word some in
    let low : word < 2 ^ s = omega (arith, before.below) in
    let start : l.first + high ≡ width = omega arith in
    let moved : component * 2 ^ l.first < 2 ^ width = (let e = rw start at (lane_below l.first high 0 component (pow_pos l.first) small) in omega arith) in
    let high_bits : low_bits high component ≡ low_bits l.count part ++ replicate l.above (top_of l.sign (low_bits l.count part))
    = ap (λ n. low_bits n component) (let e : high ≡ 0 + l.count + l.above = omega arith in e) ∙ made in
    let here : low_bits width (component * 2 ^ l.first) ≡ f lane
    = ap (λ n. low_bits n (component * 2 ^ l.first)) (sym start)
    ∙ ap (low_bits (l.first + high)) (let e : component * 2 ^ l.first ≡ component * 2 ^ l.first + 0 = omega arith in e)
    ∙ low_bits-cat l.first high 0 component (pow_pos l.first)
    ∙ ap (λ (xs : List ℕ). xs ++ low_bits high component) (low_bits-zero l.first)
    ∙ ap (λ (xs : List ℕ). replicate l.first 0 ++ xs) high_bits
    ∙ ap (full_component l.first l.above l.sign) (ap (low_bits l.count) is
    ∙ field_of_low (lanes * l.count) kept (lane * l.count) l.count (lane_inside lane lanes l.count (lanes * l.count) lt (omega arith))
    ∙ ap (λ n. field n l.count all_bits) (let e : lane * l.count ≡ 0 + lane * l.count = omega arith in e)) in
    let value : bit_or word (component * 2 ^ s % 2 ^ 64) * 2 ^ l.first ≡ component * 2 ^ l.first * 2 ^ s + word * 2 ^ l.first
    = ap (λ n. n * 2 ^ l.first) (lane_value s width word component room low (let e : high ≤ width = omega arith in omega (arith, pow-le-pow_right {n = 2} (lit< tt) e)))
    ∙ regroup component (2 ^ s) word (2 ^ l.first) in
    subst (LaneIs f (lane + 1) width) (sym value) (lane_more f lane width (word * 2 ^ l.first) (component * 2 ^ l.first) moved here before)
  where
    regroup : (a b c d : ℕ) → (a * b + c) * d ≡ a * d * b + c * d
    regroup a b c d = omega arith

-- components made of some bits are those of the bits' place
pub components_of_field : (l : PackedLayout) (at n : ℕ) (bits : List ℕ) → components_from l 0 n (field at (n * l.count) bits) ≡ components_from l at n bits
components_of_field l at n bits =
    let k = l.count in
    flat_range_same (λ part. full_component l.first l.above l.sign (field (0 + part * k) k (field at (n * k) bits))) (λ part. full_component l.first l.above l.sign (field (at + part * k) k bits)) n
    (λ part lt.
    ap (full_component l.first l.above l.sign) (
    take-drop-take k (0 + part * k) (n * k) (drop at bits) (let e = lane_inside part n k (n * k) lt (omega arith) in omega arith)
    ∙ ap (take k) (drop-drop (0 + part * k) at bits)
    ∙ ap (λ m. field m k bits) (let e : at + (0 + part * k) ≡ at + part * k = omega arith in e)))

-- the components of one word more
pub spread_step : (l : PackedLayout) (at group lanes kept word : ℕ) (start now new bits : List ℕ) → now ≡ start ++ components_from l at (group * lanes) bits → new ≡ now ++ low_bits 64 word → low_bits 64 word ≡ components_from l 0 lanes (low_bits (lanes * l.count) kept) → low_bits (lanes * l.count) kept ≡ field (at + group * (lanes * l.count)) (lanes * l.count) bits
    → new ≡ start ++ components_from l at ((group + 1) * lanes) bits
spread_step l at group lanes kept word start now new bits before added made held =
    let done = group * lanes in
    added
    ∙ ap (λ (xs : List ℕ). xs ++ low_bits 64 word) before
    ∙ ap (λ (xs : List ℕ). (start ++ components_from l at done bits) ++ xs) (
    made ∙ ap (components_from l 0 lanes) held ∙ components_of_field l (at + group * (lanes * l.count)) lanes bits
    ∙ ap (λ n. components_from l n lanes bits) (let e : at + group * (lanes * l.count) ≡ at + group * lanes * l.count = omega arith in e))
    ∙ append_assoc start (components_from l at done bits) (components_from l (at + done * l.count) lanes bits)
    ∙ ap (λ (xs : List ℕ). start ++ xs) (sym (components_more l at done lanes bits))
    ∙ ap (λ n. start ++ components_from l at n bits) (let e : group * lanes + lanes ≡ (group + 1) * lanes = omega arith in e)

-- the kept bits of the components in one word more
pub joined_step : (l : PackedLayout) (parts group lanes width word kept : ℕ) (start now new bytes : List ℕ) → length bytes ≡ parts * l.size → 8 * l.size ≡ width → lanes * width ≡ 64 → group * lanes + lanes ≤ parts → l.first + l.count ≤ width → now ≡ start ++ stream_before l (group * lanes) bytes → new ≡ now ++ low_bits (lanes * l.count) kept
    → low_bits (lanes * l.count) kept ≡ flat_map (λ lane. field (lane * width + l.first) l.count (low_bits 64 word)) (range_with_len 0 lanes) → low_bits 64 word ≡ field (8 * (8 * group) + 0) 64 (bits_of bytes)
    → new ≡ start ++ stream_before l ((group + 1) * lanes) bytes
joined_step l parts group lanes width word kept start now new bytes len size all within fits before added made held =
    let done = group * lanes in
    let bits = bits_of bytes in
    let f : ℕ → List ℕ = λ part. field l.first l.count (component_bits l.size bytes part) in
    let g : ℕ → List ℕ = λ lane. field (lane * width + l.first) l.count (low_bits 64 word) in
    let same : (lane : ℕ) → lane < lanes → g lane ≡ f (done + lane) = λ lane lt.
    let part = done + lane in
    let room : lane * width + width ≤ 64 = lane_inside lane lanes width 64 lt (omega arith) in
    let place : part * width ≡ 64 * group + lane * width = regroup group lanes lane width ∙ ap (λ n. n * group + lane * width) all in
    let bytes_before : 8 * (part * l.size) ≡ part * width = swap part l.size ∙ ap (λ n. part * n) size in
    ap (field (lane * width + l.first) l.count) held
    ∙ take-drop-take l.count (lane * width + l.first) 64 (drop (8 * (8 * group) + 0) bits) (omega arith)
    ∙ ap (take l.count) (drop-drop (lane * width + l.first) (8 * (8 * group) + 0) bits)
    ∙ ap (λ n. field n l.count bits) (let e : 8 * (8 * group) + 0 + (lane * width + l.first) ≡ 8 * (part * l.size + l.first / 8) + l.first % 8 = omega arith in e)
    ∙ field_of_part l.size part parts l.first l.count bytes len (omega arith) (omega arith) in
    added
    ∙ ap (λ (xs : List ℕ). xs ++ low_bits (lanes * l.count) kept) before
    ∙ ap (λ (xs : List ℕ). (start ++ stream_before l done bytes) ++ xs) (made ∙ flat_range_same g (λ lane. f (done + lane)) lanes same)
    ∙ append_assoc start (stream_before l done bytes) (flat_map (λ lane. f (done + lane)) (range_with_len 0 lanes))
    ∙ ap (λ (xs : List ℕ). start ++ xs) (sym (flat_split f done lanes))
    ∙ ap (λ n. start ++ stream_before l n bytes) (let e : group * lanes + lanes ≡ (group + 1) * lanes = omega arith in e)
  where
    regroup : (a b c d : ℕ) → (a * b + c) * d ≡ b * d * a + c * d
    regroup a b c d = omega arith

    swap : (a b : ℕ) → 8 * (a * b) ≡ a * (8 * b)
    swap a b = omega arith
