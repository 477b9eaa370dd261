-- What the tool's first argument asks for.
use Rattle.std.specs.Prelude.{ℕ, List, codes, if◌then◌else◌}
use Rattle.std.specs.Str.{bytes_eq}
use Rattle.zarrs_tool_lines.specs.declared.arguments.Request.{Request}
use Rattle.zarrs_tool_lines.specs.declared.arguments.Request.TheVariants.{Lines, Help, Version}

-- what this word asks for as the first argument: the help, the version, or that the lines are answered, as where there is none
abbrev pub request_of : List ℕ → Request
request_of word =
    if bytes_eq word (codes "--help") then Help
    else if bytes_eq word (codes "--version") then Version
    else Lines
