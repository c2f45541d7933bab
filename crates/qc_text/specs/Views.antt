-- The view that a message brings.
use Rattle.std.specs.Prelude.{List, []}
use Rattle.std.specs.Option.{option_map_or}
use Rattle.qc_entry.specs.declared.line.Line.{Line}
use Rattle.qc_msg.specs.declared.message.Message.{Message}
use Rattle.qc_msg.specs.Vocabulary.{Requested, request_in}
use Rattle.qc_promise.specs.Vocabulary.{view_in}

-- the view that an Append brings
abbrev pub view_asked : Message → List Line
view_asked m = option_map_or (λ (q : Requested). view_in q.want) (request_in m) []
