-- Requests that were sent, as they are in a queue.
use Rattle.std.specs.Prelude.{List, map}
use Rattle.qc_script.specs.Vocabulary.{SentRequest}
use Rattle.qc_mailbox.specs.declared.asked.Asked.{Asked}

abbrev pub request_of : Asked → SentRequest
request_of r = record { number = r.number; to = r.to }

abbrev pub asked : List Asked → List SentRequest
asked rs = map request_of rs
