-- The laws, of runs.
use Rattle.std.proofs.Common.{◌≡◌, List, ap, ◌∙◌}
use Rattle.qc_entry.specs.declared.line.Line.{Line}
use Rattle.qc_entry.specs.Vocabulary.{of_object, union}
use Rattle.theory_marks.proofs.Keeps.{laws}
use Rattle.theory_marks.proofs.Now.{brings_all, knows_all}
use Rattle.theory_marks.specs.Marks.{log_of, with_arrivals}
use Rattle.theory_marks.specs.Acts.{Act, Allowed, CountRead, IsRun, ServeAppend, counts_read, exchange, known_after}
use Rattle.theory_marks.specs.Exchange.{AppendRequest, Client, ReadGrant}
use Rattle.theory_machine.proofs.Names.{put_here}

pub known_logs_are_whole : (acts : List Act) (g : ReadGrant) → IsRun acts → Allowed (exchange acts) (CountRead g)
    → (known_after ((exchange acts).clients g.request.client) g).log ≡ log_of (of_object g.by.arrived g.request.object)
known_logs_are_whole acts g run ok = knows_all (exchange acts) g (laws acts run) ok

pub appends_bring_all : (acts : List Act) (a : AppendRequest) → IsRun acts → Allowed (exchange acts) (ServeAppend a)
    → with_arrivals ((exchange acts).sites a.site).arrived a.lines
    ≡ with_arrivals ((exchange acts).sites a.site).arrived a.view
appends_bring_all acts a run ok = brings_all (exchange acts) a (laws acts run) ok.0 ok.1

pub views_gain_whole_logs : (acts : List Act) (g : ReadGrant) → IsRun acts → Allowed (exchange acts) (CountRead g)
    → (counts_read ((exchange acts).clients g.request.client) g).view g.request.object
    ≡ union (((exchange acts).clients g.request.client).view g.request.object)
    (log_of (of_object g.by.arrived g.request.object))
views_gain_whole_logs acts g run ok =
    let k : Client = (exchange acts).clients g.request.client in
    put_here k.view g.request.object
    (union (k.view g.request.object) (known_after ((exchange acts).clients g.request.client) g).log)
    ∙ ap (λ (xs : List Line). union (((exchange acts).clients g.request.client).view g.request.object) xs)
    (known_logs_are_whole acts g run ok)
