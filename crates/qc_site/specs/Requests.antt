-- What a site does for a request: epoch and life first, then locks (Herlihy 1986).
use Rattle.std.specs.Prelude.{ℕ, ◌==◌, nat_lt, Bool, true, if◌then◌else◌, ◌&&◌, is_some, List, [], ◌∷◌, Option, Some}
use Rattle.std.specs.Prelude.{None, length}
use Rattle.qc_stamp.specs.declared.stamp.TxId.{TxId}
use Rattle.qc_entry.specs.declared.line.Line.{Line}
use Rattle.qc_entry.specs.declared.line.OwnLine.{OwnLine}
use Rattle.qc_entry.specs.Vocabulary.{of_object, told}
use Rattle.qc_decl.specs.declared.declaration.Declaration.{Declaration}
use Rattle.qc_decl.specs.Vocabulary.{client_actor, kind_at}
use Rattle.qc_lock.specs.declared.clash.Clash.{Clash as Conflict}
use Rattle.qc_lock.specs.Vocabulary.{append_clash, read_clash, with_held}
use Rattle.qc_msg.specs.declared.message.Answer.{Answer}
use Rattle.qc_msg.specs.declared.message.Answer.TheVariants.{Granted, Clash, Closed, Behind, Restarted}
use Rattle.qc_msg.specs.declared.message.Message.TheVariants as messages
use Rattle.qc_msg.specs.declared.message.Want.{Want}
use Rattle.qc_msg.specs.declared.message.Want.TheVariants.{Read, Append, Prepare}
use Rattle.qc_msg.specs.declared.turn.Turn.{Turn}
use Rattle.qc_msg.specs.Vocabulary.{sending}
use Rattle.qc_msg.specs.Vocabulary.{append_grant, grant_with}
use Rattle.qc_msg.specs.declared.payload.Grant.{Grant}
use Rattle.qc_msg.specs.declared.payload.ReadRequest.{ReadRequest}
use Rattle.qc_site.specs.Site.{SiteState, SiteMove, moved, answering, answers, arriving, learned}
use Rattle.qc_site.specs.Promise.{prepares}
pub use Rattle.qc_decl.specs.Vocabulary.{relation_at}

-- what refuses a request of this epoch, which names this life: the first row that applies

abbrev pub life_fault : SiteState → ℕ → Option Answer
life_fault s life =
    if (life == 0) then None else (if life == s.life then None else Some (Restarted s.life))

abbrev pub closed_fault : SiteState → ℕ → Option ℕ → Option Answer
closed_fault s life (Some epoch) = Some (Closed epoch)
closed_fault s life None = life_fault s life

abbrev pub fault_of : SiteState → ℕ → ℕ → Option Answer
fault_of s epoch life =
    if nat_lt s.epoch epoch then Some (Behind s.epoch)
    else (if nat_lt epoch s.epoch then Some (Closed s.epoch) else closed_fault s life s.closed_for)

-- a clash is told, and the holder's client is asked how its transaction stands
abbrev pub clashing : Declaration → ℕ → ℕ → Conflict → Turn
clashing decl from number c = sending (answering from number (Clash c.holder c.inv c.event)
    ∷ record { to = client_actor decl c.holder.client; message = messages.Inquiry c.holder } ∷ [])

-- a Read: the lock is held, and those of the known lines of the object are granted that its mark doesn't count

abbrev pub arrived_of : SiteState → ℕ → List Line
arrived_of s object = of_object s.arrived object

abbrev pub grant_told : SiteState → ReadRequest → Grant
grant_told s r =
    grant_with s.life s.clock (told s.life s.epoch (arrived_of s r.object) r.mark) (length (arrived_of s r.object))

abbrev pub reads : SiteState → ℕ → ℕ → TxId → ReadRequest → SiteMove
reads s from number tx r =
    moved
    (record s { held = with_held s.held tx (record { object = r.object; inv = r.inv } ∷ []) [] })
    (answers from number (Granted (grant_told s r)))

abbrev pub reads_by : Declaration → SiteState → ℕ → ℕ → TxId → ReadRequest → Option Conflict → SiteMove
reads_by decl s from number tx r None = reads s from number tx r
reads_by decl s from number tx r (Some c) = moved s (clashing decl from number c)

-- an Append: the lines of its view are learned, and its own lines are held

abbrev pub appends : SiteState → ℕ → ℕ → TxId → List Line → List OwnLine → SiteMove
appends s from number tx view own =
    moved
    (record s { log = learned s view; arrived = arriving s view; held = with_held s.held tx [] own })
    (answers from number (Granted (append_grant s.life s.clock)))

abbrev pub appends_by : Declaration → SiteState → ℕ → ℕ → TxId → List Line → List OwnLine → Option Conflict → SiteMove
appends_by decl s from number tx view own None = appends s from number tx view own
appends_by decl s from number tx view own (Some c) = moved s (clashing decl from number c)

-- a request of the site's epoch and life
abbrev pub grants : Declaration → SiteState → ℕ → ℕ → TxId → Want → SiteMove
grants decl s from number tx (Read r) =
    reads_by decl s from number tx r (read_clash (relation_at decl r.object) s.held tx r.object r.inv)
grants decl s from number tx (Append object view own) =
    appends_by decl s from number tx view own (append_clash (relation_at decl object) s.held tx own)
grants decl s from number tx Prepare = prepares s from number tx

abbrev pub requested : Declaration → SiteState → ℕ → ℕ → TxId → Want → Option Answer → SiteMove
requested decl s from number tx want (Some fault) = moved s (answers from number fault)
requested decl s from number tx want None = grants decl s from number tx want

-- whether what a request names is declared; no run gives another one

abbrev pub names_object : Declaration → Want → Bool
names_object decl (Read read) = is_some (kind_at decl read.object)
names_object decl (Append object view own) = is_some (kind_at decl object)
names_object decl Prepare = true

abbrev pub names_declared : Declaration → TxId → Want → Bool
names_declared decl tx want = nat_lt tx.client decl.clients && names_object decl want
