-- A call of a shelf, as code holds it.
use Rattle.qc_files.specs.Handed.{HandedOver}
use Rattle.qc_files.specs.declared.handed.Answered.{Answered}
use Rattle.qc_outside.specs.Vocabulary.{answer_of}

abbrev pub handed_by : Answered → HandedOver
handed_by call = (call.name.now, (call.limit, answer_of call.answer.now))
