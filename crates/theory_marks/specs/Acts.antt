-- What may happen.
use Rattle.std.specs.Prelude.{◌≡◌, ◌⊎◌, ℕ, suc, ◌<◌, ◌==◌, true, false, if◌then◌else◌, List, [], ◌∷◌, ◌++◌, Option}
use Rattle.std.specs.Prelude.{Some, None}
use Rattle.qc_entry.specs.declared.line.Line.{Line}
use Rattle.qc_entry.specs.Vocabulary.{IsAscending, union, without}
use Rattle.qc_list.specs.Vocabulary.{In}
use Rattle.theory_marks.specs.Exchange.{AppendGrant, AppendRequest, Appends, Client, Exchange, ReadGrant, ReadRequest}
use Rattle.theory_marks.specs.Exchange.{Reads, Request, count_of, had, log_granted, new_client}
use Rattle.theory_machine.specs.Vocabulary.{put}
use Rattle.theory_marks.specs.Marks.{Arrivals, KnownLog, learned, with_arrivals}

pub data Act : Type 0 where
  -- lines join a site's log in one turn: those of a Done, of a Share, or whatever else
  Join : (site : ℕ) (lines : List Line) → Act
  -- a site falls and rises with any log, in a new life
  Rise : (site : ℕ) (log : List Line) → Act
  Close : (site : ℕ) → Act
  -- a site installs a later epoch, with any log
  Install : (site epoch : ℕ) (log : List Line) → Act
  -- a client begins a transaction
  Begin : (client epoch : ℕ) → Act
  AskRead : (client site object : ℕ) → Act
  AskAppend : (client site object : ℕ) → Act
  -- a site serves a request: at any time, any number of times
  ServeRead : ReadRequest → Act
  ServeAppend : AppendRequest → Act
  -- a client counts a grant, or that its open request is lost
  CountRead : ReadGrant → Act
  CountAppend : AppendGrant → Act
  Lose : (client site : ℕ) → Act
  -- a client falls and rises
  Fall : (client : ℕ) → Act

-- a site is another one
abbrev pub with_site : Exchange → ℕ → Arrivals → Exchange
with_site w n s = record w {
  sites = put w.sites n s;
  periods = put w.periods n (put (w.periods n) s.life (put (w.periods n s.life) s.epoch s.arrived));
}

abbrev pub with_client : Exchange → ℕ → Client → Exchange
with_client w c k = record w { clients = put w.clients c k }

abbrev pub first_life : ℕ → ℕ → ℕ
first_life life other = if life == 0 then other else life

-- what a client asks of a site

abbrev pub read_of : Exchange → ℕ → ℕ → ℕ → ReadRequest
read_of w c n o =
    let k : Client = w.clients c in
    record {
      number = w.next;
      client = c;
      site = n;
      epoch = k.epoch;
      life = k.lives n;
      object = o;
      mark = (k.known n o).mark;
    }

abbrev pub append_of : Exchange → ℕ → ℕ → ℕ → AppendRequest
append_of w c n o =
    let k : Client = w.clients c in
    record {
      number = w.next;
      client = c;
      site = n;
      epoch = k.epoch;
      life = k.lives n;
      object = o;
      lines = without (k.view o) (had k n o);
      view = k.view o;
    }

abbrev pub waiting : Client → ℕ → Option Request → Client
waiting k n q = record k { waits = put k.waits n q }

-- a client after it counted a grant
abbrev pub known_after : Client → ReadGrant → KnownLog
known_after k g = learned (k.known g.request.site g.request.object) g.by.life k.epoch (count_of g) (log_granted g)

abbrev pub counts_read : Client → ReadGrant → Client
counts_read k g =
    let n : ℕ = g.request.site in
    let o : ℕ = g.request.object in
    record k {
      known = put k.known n (put (k.known n) o (known_after k g));
      lives = put k.lives n (first_life (k.lives n) g.by.life);
      read = put k.read n (put (k.read n) o true);
      view = put k.view o (union (k.view o) (known_after k g).log);
      waits = put k.waits n None;
    }

abbrev pub counts_append : Client → AppendGrant → Client
counts_append k g =
    let n : ℕ = g.request.site in
    let o : ℕ = g.request.object in
    record k {
      lives = put k.lives n (first_life (k.lives n) g.by.life);
      given = put k.given n (put (k.given n) o (g.request.lines ++ k.given n o));
      waits = put k.waits n None;
    }

abbrev pub begins : Client → ℕ → Client
begins k epoch =
    record k
    { epoch = epoch; lives = λ n. 0; read = λ n o. false; given = λ n o. []; view = λ o. []; waits = λ n. None }

abbrev pub joins : Arrivals → List Line → Arrivals
joins s lines = record s { arrived = with_arrivals s.arrived lines }

abbrev pub after : Exchange → Act → Exchange
after w (Join n lines) = with_site w n (joins (w.sites n) lines)
after w (Rise n log) = with_site w n (record (w.sites n) { life = suc (w.sites n).life; arrived = log })
after w (Close n) = with_site w n (record (w.sites n) { life = suc (w.sites n).life })
after w (Install n epoch log) = with_site w n (record (w.sites n) { epoch = epoch; arrived = log })
after w (Begin c epoch) = with_client w c (begins (w.clients c) epoch)
after w (AskRead c n o) =
    record (with_client w c (waiting (w.clients c) n (Some (Reads (read_of w c n o)))))
    { reads = read_of w c n o ∷ w.reads; next = suc w.next }
after w (AskAppend c n o) =
    record (with_client w c (waiting (w.clients c) n (Some (Appends (append_of w c n o)))))
    { appends = append_of w c n o ∷ w.appends; next = suc w.next }
after w (ServeRead r) = record w { granted = record { request = r; by = w.sites r.site } ∷ w.granted }
after w (ServeAppend a) =
    record (with_site w a.site (joins (w.sites a.site) a.lines))
    { agreed = record { request = a; by = joins (w.sites a.site) a.lines } ∷ w.agreed }
after w (CountRead g) = with_client w g.request.client (counts_read (w.clients g.request.client) g)
after w (CountAppend g) = with_client w g.request.client (counts_append (w.clients g.request.client) g)
after w (Lose c n) = with_client w c (waiting (w.clients c) n None)
after w (Fall c) = with_client w c new_client

-- a site serves a request of its epoch that names its life or none
pub record MayServe (s : Arrivals) (epoch life : ℕ) : Type 0 where
  pub current : epoch ≡ s.epoch
  pub named : (life ≡ 0) ⊎ (life ≡ s.life)

-- the open request of the number that the grant names
abbrev pub IsOpenRead : Option Request → ℕ → Type 0
IsOpenRead None number = ⊥
IsOpenRead (Some (Reads r)) number = r.number ≡ number
IsOpenRead (Some (Appends a)) number = ⊥

abbrev pub IsOpenAppend : Option Request → ℕ → Type 0
IsOpenAppend None number = ⊥
IsOpenAppend (Some (Reads r)) number = ⊥
IsOpenAppend (Some (Appends a)) number = a.number ≡ number

abbrev pub Allowed : Exchange → Act → Type 0
Allowed w (Join n lines) = IsAscending lines
Allowed w (Rise n log) = Unit {0}
Allowed w (Close n) = Unit {0}
Allowed w (Install n epoch log) = (w.sites n).epoch < epoch
Allowed w (Begin c epoch) = Unit {0}
Allowed w (AskRead c n o) = (w.clients c).waits n ≡ None
Allowed w (AskAppend c n o) = (w.clients c).waits n ≡ None
Allowed w (ServeRead r) = In r w.reads × MayServe (w.sites r.site) r.epoch r.life
Allowed w (ServeAppend a) = In a w.appends × MayServe (w.sites a.site) a.epoch a.life
Allowed w (CountRead g) =
    In g w.granted × IsOpenRead ((w.clients g.request.client).waits g.request.site) g.request.number
Allowed w (CountAppend g) =
    In g w.agreed × IsOpenAppend ((w.clients g.request.client).waits g.request.site) g.request.number
Allowed w (Lose c n) = Unit {0}
Allowed w (Fall c) = Unit {0}

abbrev pub first_exchange : Exchange
first_exchange = record {
  sites = λ n. record { life = 1; epoch = 1; arrived = [] };
  clients = λ c. new_client;
  reads = [];
  appends = [];
  granted = [];
  agreed = [];
  next = 0;
  periods = λ n l e. [];
}

-- newest first
abbrev pub exchange : List Act → Exchange
exchange [] = first_exchange
exchange (a ∷ older) = after (exchange older) a

abbrev pub IsRun : List Act → Type 0
IsRun [] = Unit {0}
IsRun (a ∷ older) = Allowed (exchange older) a × IsRun older
