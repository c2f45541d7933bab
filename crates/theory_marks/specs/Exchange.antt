-- Sites that tell clients what they lack, and clients that tell sites what these lack. All messages that were ever sent
-- stay: a request may be served late, again or not at all, and an answer may be counted late or not at all.
use Rattle.std.specs.Prelude.{ℕ, Bool, false, if◌then◌else◌, List, [], ◌++◌, Option, None, length}
use Rattle.qc_entry.specs.declared.line.Line.{Line}
use Rattle.qc_entry.specs.Vocabulary.{of_object}
use Rattle.theory_marks.specs.Marks.{Arrivals, KnownLog, Mark, nothing_known, told}

-- a Read, which carries the mark that its client keeps of the site and the object
pub record ReadRequest : Type 0 where
  pub number : ℕ
  pub client : ℕ
  pub site : ℕ
  pub epoch : ℕ
  pub life : ℕ  -- that of the site's first counted grant, or 0
  pub object : ℕ
  pub mark : Mark

-- an Append carries the lines of the view that the site lacks; the whole view stands beside them, unsent
pub record AppendRequest : Type 0 where
  pub number : ℕ
  pub client : ℕ
  pub site : ℕ
  pub epoch : ℕ
  pub life : ℕ
  pub object : ℕ
  pub lines : List Line
  pub view : List Line

-- a Granted to a Read, with the site as it was at the turn that sent it, which tells its life, count and log
pub record ReadGrant : Type 0 where
  pub request : ReadRequest
  pub by : Arrivals

abbrev pub count_of : ReadGrant → ℕ
count_of g = length (of_object g.by.arrived g.request.object)

abbrev pub log_granted : ReadGrant → List Line
log_granted g = told g.by g.request.mark g.request.object

-- a Granted to an Append, with the site as it was then, when the lines had joined its log
pub record AppendGrant : Type 0 where
  pub request : AppendRequest
  pub by : Arrivals

-- an open request
pub data Request : Type 0 where
  Reads : ReadRequest → Request
  Appends : AppendRequest → Request

-- A client: what it knows of each site and object since it rose; of its transaction the epoch, the life of each site's
-- first counted grant or 0, whether a Granted to a Read of an object counted of a site, the lines of the Appends whose
-- Granted counted, and the views; and the open request at each site, of which there is one at most.
pub record Client : Type 0 where
  pub known : ℕ → ℕ → KnownLog
  pub epoch : ℕ
  pub lives : ℕ → ℕ
  pub read : ℕ → ℕ → Bool
  pub given : ℕ → ℕ → List Line
  pub view : ℕ → List Line
  pub waits : ℕ → Option Request

abbrev pub new_client : Client
new_client =
    record {
      known = λ n o. nothing_known;
      epoch = 1;
      lives = λ n. 0;
      read = λ n o. false;
      given = λ n o. [];
      view = λ o. [];
      waits = λ n. None;
    }

-- the lines of an object that a site has, as far as the client's transaction can tell
abbrev pub had : Client → ℕ → ℕ → List Line
had c n o = (if c.read n o then (c.known n o).log else []) ++ c.given n o

-- the sites, the clients, and all messages that were sent
pub record Exchange : Type 0 where
  pub sites : ℕ → Arrivals
  pub clients : ℕ → Client
  pub reads : List ReadRequest
  pub appends : List AppendRequest
  pub granted : List ReadGrant
  pub agreed : List AppendGrant
  pub next : ℕ
  -- of a site, a life and an epoch: all lines that arrived in them
  pub periods : ℕ → ℕ → ℕ → List Line
