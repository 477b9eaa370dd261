-- Quotients and remainders.
use Rattle.std.proofs.Common.{◌≡◌, ℕ, ◌+◌, ◌*◌, ◌/◌, ◌%◌, ◌<◌, ◌≤◌, arith, ap, ◌∙◌}
use Rattle.std.proofs.Math.Nat.{mul-le-mul_right, mul-mod_left, add-mul-mod_self_right}
use Rattle.std.proofs.lemmas.Nat.{div_below, mod_below, div-add-mod', div-mul-add, mod-mul-add}

-- as long as the remainder stays below the divisor, the quotient is the same
pub stay_div : (place more divisor : ℕ) → place % divisor + more < divisor → (place + more) / divisor ≡ place / divisor
stay_div place more divisor l =
    let d = div-add-mod' place divisor in
    let e : place + more ≡ place / divisor * divisor + (place % divisor + more) = omega (arith, d) in
    ap (λ n. n / divisor) e ∙ div-mul-add (place / divisor) divisor (place % divisor + more) l

-- and the remainder goes on
pub stay_mod : (place more divisor : ℕ) → place % divisor + more < divisor → (place + more) % divisor ≡ place % divisor + more
stay_mod place more divisor l =
    let d = div-add-mod' place divisor in
    let e : place + more ≡ place / divisor * divisor + (place % divisor + more) = omega (arith, d) in
    ap (λ n. n % divisor) e ∙ mod-mul-add (place / divisor) divisor (place % divisor + more) l

-- quotient and remainder by a product
pub record IsByProduct (place size rest : ℕ) : Type 0 where
  pub quotient : place / (size * rest) ≡ place / rest / size
  pub remainder : place % (size * rest) ≡ place / rest % size * rest + place % rest

pub by_product : (place size rest : ℕ) → 0 < size → 0 < rest → IsByProduct place size rest
by_product place size rest s r =
    let outer = place / rest in
    let low = place / rest % size * rest + place % rest in
    let d = div-add-mod' place rest in
    let e = div-add-mod' outer size in
    let f : (outer / size * size + outer % size) * rest ≡ outer * rest = ap (λ n. n * rest) e in
    let whole : place ≡ outer / size * (size * rest) + low = omega (arith, d, f) in
    let high : place / rest % size + 1 ≤ size = let m = mod_below outer size s in omega (arith, m) in
    let up : (place / rest % size + 1) * rest ≤ size * rest = mul-le-mul_right rest high in
    let below : low < size * rest = let m = mod_below place rest r in omega (arith, m, up) in
    record {
      quotient = ap (λ n. n / (size * rest)) whole ∙ div-mul-add (outer / size) (size * rest) low below;
      remainder = ap (λ n. n % (size * rest)) whole ∙ mod-mul-add (outer / size) (size * rest) low below;
    }

-- as long as the remainder by a divisor stays below it, that by one of its multiples does so too
pub record StaysInRow (place more divisor row : ℕ) : Type 0 where
  pub in_block : place % row % divisor + more < divisor
  pub in_row : place % row + more < row

pub stays_in_row : (place more divisor row : ℕ) → 0 < divisor → 0 < row → row % divisor ≡ 0 → place % divisor + more < divisor → StaysInRow place more divisor row
stays_in_row place more divisor row some r divides l =
    let f : row / divisor * divisor ≡ row = let d = div-add-mod' row divisor in omega (arith, d, divides) in
    let g : place / row * (row / divisor * divisor) ≡ place / row * row = ap (λ n. place / row * n) f in
    let h : place ≡ place % row + place / row * (row / divisor) * divisor = let d = div-add-mod' place row in omega (arith, d, g) in
    let same : place % divisor ≡ place % row % divisor = ap (λ n. n % divisor) h ∙ add-mul-mod_self_right (place % row) (place / row * (row / divisor)) divisor in
    let inside = mod_below place row r in
    let inside' : place % row < row / divisor * divisor = omega (arith, inside, f) in
    let q = div_below (place % row) divisor (row / divisor) some inside' in
    let q' : place % row / divisor + 1 ≤ row / divisor = omega (arith, q) in
    let up : (place % row / divisor + 1) * divisor ≤ row / divisor * divisor = mul-le-mul_right divisor q' in
    let e = div-add-mod' (place % row) divisor in
    let block : place % row % divisor + more < divisor = omega (arith, same, l) in
    record { in_block = block; in_row = omega (arith, e, up, f, block) }

-- a multiple of a multiple
pub multiple : (size row divisor : ℕ) → row % divisor ≡ 0 → size * row % divisor ≡ 0
multiple size row divisor divides =
    let f : row / divisor * divisor ≡ row = let d = div-add-mod' row divisor in omega (arith, d, divides) in
    let g : size * (row / divisor * divisor) ≡ size * row = ap (λ n. size * n) f in
    let h : size * row ≡ size * (row / divisor) * divisor = omega (arith, g) in
    ap (λ n. n % divisor) h ∙ mul-mod_left (size * (row / divisor)) divisor
