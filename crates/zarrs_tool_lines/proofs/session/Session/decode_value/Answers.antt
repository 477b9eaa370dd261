use Rattle.zarrs_tool_lines.proofs.session.Session.decode_value.Goals as goal

pub ok_elements-requires : goal.ok_elements-requires
ok_elements-requires c =
    let found = c.in_ok-elements.ensures.decodes.found in
    record { held = (found.0, found.1) }
