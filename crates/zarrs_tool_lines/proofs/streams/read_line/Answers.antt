use Rattle.std.proofs.Common.{◌≡◌, ◌∙◌, ℕ, ◌<◌, List, [], ◌∷◌, ◌++◌, length, sym, ap, arith, IfSome, Option, Some, None}
use Rattle.std.specs.Io.BufRead.{take_through, drop_through, strip_last, DropsThrough}
use Rattle.std.proofs.BufReadLemmas.{take_through_nonempty}
use Rattle.zarrs_tool_lines.specs.Lines.{lines_of}
use Rattle.zarrs_tool_lines.proofs.LineLemmas.{lines-step}
use Rattle.zarrs_tool_lines.proofs.streams.read_line.Goals as goal

read : (before after : Option (List ℕ)) (empty held line : List ℕ) → empty ≡ [] → IfSome before (λ xs. held ≡ empty ++ take_through 10 xs) → DropsThrough before after 10 → 0 < length held → line ≡ strip_last 10 held → IfSome before (λ input. (rest : List ℕ) × (after ≡ Some rest) × (lines_of input ≡ line ∷ lines_of rest))
read None after empty held line none got rest some is = tt
read (Some xs) after empty held line none got rest some is =
    let whole : held ≡ take_through 10 xs = got ∙ ap (λ l. l ++ take_through 10 xs) none in
    (drop_through 10 xs, rest, lines-step xs (take_through_nonempty 10 xs (omega (arith, some, ap length whole))) ∙ ap (λ l. l ∷ lines_of (drop_through 10 xs)) (sym (is ∙ ap (strip_last 10) whole)))

pub returns : goal.returns
returns g c = record { next = read (g.R.Read.remaining c.args.reader.now) (g.R.Read.remaining c.read_until.new.self) c.clear.new.self.items c.read_until.new.buf.items c.drop_end.new.line.items c.clear.ensures.items c.in_ok-read_until.ensures.bytes c.in_ok-read_until.ensures.rest (omega (arith, c.if-branch-eq0.false, c.in_ok-read_until.ensures.ok, c.read_until.new.buf.ok.0)) c.drop_end.ensures.written }
