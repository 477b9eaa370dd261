-- Where all bits of whole bytes are kept, values are those of the codec `bytes` in little order.
use Rattle.zarrs_data_type.specs.Form.{form_of}
use Rattle.std.proofs.Common.{◌≡◌, ◌↔◌, ℕ, zero, suc, ◌*◌, ◌<◌, ◌≤◌, ◌^◌, Bool, true, nat_lt, Some, Result, Ok, Err, List, [], ◌∷◌, ◌++◌, length, get_or, lit<, arith, refl, ap, sym, ◌∙◌}
use Rattle.std.specs.List.{All}
use Rattle.std.proofs.Math.Nat.{mul-le-mul_left}
use Rattle.std.proofs.lemmas.Bool.Decides.{nat_tests}
use Rattle.std.proofs.lemmas.List.Elements.{All-append, All-head, All-nil, All-tail}
use Rattle.zarrs_chunk.specs.ChunkShape.{product}
use Rattle.zarrs_chunk.specs.declared.codec_error.CodecError.{CodecError}
use Rattle.zarrs_data_type.specs.Element.{Element, plain, absent, present, Chunk}
use Rattle.zarrs_data_type.specs.ElementType.{fixed, text, bytes, optional, element_size}
use Rattle.zarrs_data_type.specs.FillValue.{fill_fits}
use Rattle.zarrs_data_type.specs.declared.endianness.Endianness.TheVariants.{Little}
use Rattle.zarrs_bytes.specs.BytesCodec.{bytes_length, spelling, BytesWritten}
use Rattle.zarrs_bytes.proofs.Coding.{ok}
use Rattle.zarrs_packbits.specs.BitStream.{chunk_stream}
use Rattle.zarrs_packbits.specs.declared.layout.PackedLayout.{PackedLayout}
use Rattle.zarrs_packbits.specs.Laws.{HasBytes}
use Rattle.zarrs_packbits.specs.Laws as laws
use Rattle.zarrs_packbits.specs.PackBitsCodec.{PackBitsWritten}
use Rattle.zarrs_packbits.specs.PackBitsSettings.{PackBitsSettings, packed_layout, keeps_all_bytes}
use Rattle.zarrs_packbits.specs.PackedLayout.{is_whole, layout_components}
use Rattle.zarrs_packbits.specs.PaddingByte.{value_with}
use Rattle.zarrs_packbits.proofs.Exact.{element_bytes, joined, is_cut, stream_cut}
use Rattle.zarrs_packbits.proofs.LayoutLemmas.{whole_encoded}
use Rattle.zarrs_packbits.proofs.Taken.{taken}

pub layout_kept : (r : Result PackedLayout CodecError) → keeps_all_bytes r ≡ true → (l : PackedLayout) × (r ≡ Ok l) × (is_whole l ≡ true)
layout_kept (Ok l) h = (l, refl, h)
layout_kept (Err e) h = absurd cc

pub same_layout : (k l : PackedLayout) (r : Result PackedLayout CodecError) → r ≡ Ok k → r ≡ Ok l → k ≡ l
same_layout k l r e f = cc

pub spelling_is : (width components : ℕ) (sign : Bool) (chunk : Chunk) → spelling (Some Little) (fixed width components sign) chunk ≡ joined chunk
spelling_is width components sign [] = refl
spelling_is width components sign (plain items ∷ chunk) = ap (λ (l : List ℕ). items ++ l) (spelling_is width components sign chunk)
spelling_is width components sign (absent ∷ chunk) = spelling_is width components sign chunk
spelling_is width components sign (present element ∷ chunk) = spelling_is width components sign chunk

element_small : (element : Element) → HasBytes element → All (λ byte. byte < 256) (element_bytes element)
element_small (plain items) h = h
element_small absent h = All-nil (λ byte. byte < 256)
element_small (present element) h = All-nil (λ byte. byte < 256)

joined_small : (chunk : Chunk) → All HasBytes chunk → All (λ byte. byte < 256) (joined chunk)
joined_small [] h = All-nil (λ byte. byte < 256)
joined_small (element ∷ chunk) h =
    All-append (λ byte. byte < 256) (element_bytes element) (joined chunk) (element_small element (All-head HasBytes element chunk h)) (joined_small chunk (All-tail HasBytes element chunk h))

small_at : (items : List ℕ) → All (λ byte. byte < 256) items → (i : ℕ) → get_or items i 0 < 256
small_at [] h i = lit< tt
small_at (b ∷ items) h zero = All-head (λ byte. byte < 256) b items h
small_at (b ∷ items) h (suc i) = small_at items (All-tail (λ byte. byte < 256) b items h) i

length_is : (sizes : List ℕ) (width components : ℕ) (sign : Bool) (fill : List ℕ) → fill_fits (fixed width components sign) fill ≡ true → product sizes < 2 ^ 64 → product sizes * element_size width components < 2 ^ 64 → bytes_length (Some Little) (form_of sizes (fixed width components sign) fill) ≡ ok (product sizes * element_size width components)
length_is sizes width components sign fill f n m =
    let a : nat_lt (product sizes) (2 ^ 64) ≡ true = grind (arith, nat_tests) in
    let b : nat_lt (product sizes * element_size width components) (2 ^ 64) ≡ true = grind (arith, nat_tests) in
    rw (f, a, b) refl

-- 64 bits count the bytes of a chunk that is taken
whole_fits : (settings : PackBitsSettings) (sizes : List ℕ) (width components : ℕ) (sign : Bool) (fill : List ℕ) (l : PackedLayout) → packed_layout settings (form_of sizes (fixed width components sign) fill) ≡ Ok l → (product sizes * (l.group * l.size) ≡ layout_components l * l.size) × (product sizes ≤ product sizes * (l.group * l.size)) × (product sizes * element_size width components < 2 ^ 64)
whole_fits settings sizes width components sign fill l e =
    let t = taken settings sizes width components sign fill l e in
    let s = t.sound in
    let size : 1 ≤ l.size = omega (arith, s.size, s.some) in
    let group : 1 ≤ l.group = omega (arith, s.group) in
    let one : l.group * 1 ≤ l.group * l.size = mul-le-mul_left l.group size in
    let many : product sizes * 1 ≤ product sizes * (l.group * l.size) = mul-le-mul_left (product sizes) (let d : 1 ≤ l.group * l.size = omega arith in d) in
    let all : product sizes * (l.group * l.size) ≡ layout_components l * l.size = ap (λ n. n * (l.group * l.size)) (sym t.elements) ∙ (let d : l.elements * (l.group * l.size) ≡ layout_components l * l.size = omega arith in d) in
    let bytes_fit : product sizes * element_size width components < 2 ^ 64 = omega (arith, ap (λ k. product sizes * k) t.size, all, s.bytes_fit) in
    (all, omega (arith, many), bytes_fit)

pub length_fits : (settings : PackBitsSettings) (sizes : List ℕ) (width components : ℕ) (sign : Bool) (fill : List ℕ) (l : PackedLayout) → packed_layout settings (form_of sizes (fixed width components sign) fill) ≡ Ok l → bytes_length (Some Little) (form_of sizes (fixed width components sign) fill) ≡ ok (product sizes * element_size width components)
length_fits settings sizes width components sign fill l e =
    let t = taken settings sizes width components sign fill l e in
    let all = whole_fits settings sizes width components sign fill l e in
    length_is sizes width components sign fill t.filled (omega (arith, all.1, all.0, t.sound.bytes_fit)) all.2

fixed_written : (settings : PackBitsSettings) (sizes : List ℕ) (width components : ℕ) (sign : Bool) (fill value : List ℕ) (chunk : Chunk) → keeps_all_bytes (packed_layout settings (form_of sizes (fixed width components sign) fill)) ≡ true → All HasBytes chunk
    → PackBitsWritten settings (form_of sizes (fixed width components sign) fill) value chunk ↔ BytesWritten (Some Little) (form_of sizes (fixed width components sign) fill) value chunk
fixed_written settings sizes width components sign fill value chunk keeps small =
    let type = fixed width components sign in
    let whole = layout_kept (packed_layout settings (form_of sizes type fill)) keeps in
    let l = whole.0 in
    let e = whole.1 in
    let t = taken settings sizes width components sign fill l e in
    let s = t.sound in
    let length_so = length_fits settings sizes width components sign fill l e in (
      λ w.
          let c = is_cut l (product sizes) width components sign chunk w.elements t.size t.elements in
          let same : w.layout ≡ l = same_layout w.layout l (packed_layout settings (form_of sizes type fill)) w.taken e in
          let is : value ≡ joined chunk
          = w.spelt ∙ ap (λ (k : PackedLayout). value_with k (chunk_stream k chunk)) same ∙ ap (value_with l) (stream_cut l chunk c) ∙ whole_encoded l (joined chunk) s whole.2 c.long (small_at (joined chunk) (joined_small chunk small)) in
          record {
            len = product sizes * element_size width components;
            length_is = length_so;
            elements = w.elements;
            value_is = is ∙ sym (spelling_is width components sign chunk);
            small = omega (arith, ap length is, c.long, s.bytes_fit);
          },
      λ b.
          let c = is_cut l (product sizes) width components sign chunk b.elements t.size t.elements in
          record {
            layout = l;
            taken = e;
            elements = b.elements;
            spelt = b.value_is ∙ spelling_is width components sign chunk ∙ sym (ap (value_with l) (stream_cut l chunk c) ∙ whole_encoded l (joined chunk) s whole.2 c.long (small_at (joined chunk) (joined_small chunk small)));
          },
    )

pub written_as_bytes : laws.WrittenAsBytes
written_as_bytes settings sizes (fixed width components sign) fill value chunk keeps small = fixed_written settings sizes width components sign fill value chunk keeps small
written_as_bytes settings sizes text fill value chunk keeps small = absurd cc
written_as_bytes settings sizes bytes fill value chunk keeps small = absurd cc
written_as_bytes settings sizes (optional type) fill value chunk keeps small = absurd cc
