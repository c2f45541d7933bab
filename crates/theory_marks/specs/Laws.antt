-- What holds of each exchange that a run reaches.
use Rattle.std.specs.Prelude.{◌≡◌, ◌≢◌, ◌⊎◌, ℕ, ◌<◌, ◌≤◌, List, ◌++◌, length, Some}
use Rattle.qc_entry.specs.declared.line.Line.{Line}
use Rattle.qc_entry.specs.Vocabulary.{IsAscending, of_object}
use Rattle.qc_list.specs.Vocabulary.{In}
use Rattle.theory_marks.specs.Marks.{Arrivals, KnownLog, Mark, log_of, mark_of}
use Rattle.theory_marks.specs.Exchange.{AppendGrant, AppendRequest, Appends, Client, Exchange, ReadGrant, ReadRequest}
use Rattle.theory_marks.specs.Exchange.{Reads, Request, had}

-- The site was once like this: its life and its epoch aren't later than those of now, and what had arrived is the
-- front of all that arrived in them.
pub record HasBeen (periods : ℕ → ℕ → ℕ → List Line) (now : Arrivals) (n : ℕ) (then : Arrivals) : Type 0 where
  pub life : then.life ≤ now.life
  pub epoch : then.epoch ≤ now.epoch
  pub more : List Line
  pub front : periods n then.life then.epoch ≡ then.arrived ++ more

-- a mark tells all that the site had of the object once
pub record IsTrueMark (periods : ℕ → ℕ → ℕ → List Line) (now : Arrivals) (n object : ℕ) (m : Mark) : Type 0 where
  pub then : Arrivals
  pub was : HasBeen periods now n then
  pub is : m ≡ mark_of then object

-- what is known is all that the site had of the object once
pub record IsTrueLog (periods : ℕ → ℕ → ℕ → List Line) (now : Arrivals) (n object : ℕ) (k : KnownLog) : Type 0 where
  pub then : Arrivals
  pub was : HasBeen periods now n then
  pub mark : k.mark ≡ mark_of then object
  pub log : k.log ≡ log_of (of_object then.arrived object)

-- the site had the line in this life and epoch
pub record HadLine (periods : ℕ → ℕ → ℕ → List Line) (now : Arrivals) (n life epoch : ℕ) (l : Line) : Type 0 where
  pub named : life ≢ 0
  pub then : Arrivals
  pub was : HasBeen periods now n then
  pub life_is : then.life ≡ life
  pub epoch_is : then.epoch ≡ epoch
  pub line : In l then.arrived

-- a request is of the site's epoch, and names its life or none
pub record IsServed (by : Arrivals) (epoch life : ℕ) : Type 0 where
  pub alive : by.life ≢ 0
  pub epoch_is : by.epoch ≡ epoch
  pub life_is : (life ≡ 0) ⊎ (life ≡ by.life)

pub record IsReadGrant (periods : ℕ → ℕ → ℕ → List Line) (sites : ℕ → Arrivals) (reads : List ReadRequest)
    (g : ReadGrant) : Type 0 where
  pub asked : In g.request reads
  pub was : HasBeen periods (sites g.request.site) g.request.site g.by
  pub served : IsServed g.by g.request.epoch g.request.life
  -- a mark of this life and epoch is of no more than the site has
  pub mark : g.request.mark.life ≡ g.by.life → g.request.mark.epoch ≡ g.by.epoch
      → g.request.mark.count ≤ length (of_object g.by.arrived g.request.object)

pub record IsAppendGrant (periods : ℕ → ℕ → ℕ → List Line) (sites : ℕ → Arrivals) (appends : List AppendRequest)
    (g : AppendGrant) : Type 0 where
  pub asked : In g.request appends
  pub was : HasBeen periods (sites g.request.site) g.request.site g.by
  pub served : IsServed g.by g.request.epoch g.request.life
  pub lines : (l : Line) → In l g.request.lines → In l g.by.arrived

-- an Append has each line of the view that the site didn't have in the life that it names
pub record IsShort (periods : ℕ → ℕ → ℕ → List Line) (sites : ℕ → Arrivals) (a : AppendRequest) : Type 0 where
  pub view : IsAscending a.view
  pub lines : IsAscending a.lines
  pub less : (l : Line) → In l a.lines → In l a.view
  pub whole : (l : Line) → In l a.view → In l a.lines ⊎ HadLine periods (sites a.site) a.site a.life a.epoch l

abbrev pub IsWaiting : List ReadRequest → List AppendRequest → ℕ → ℕ → Client → Request → Type 0
IsWaiting reads appends c n k (Reads r) =
    In r reads × (r.client ≡ c) × (r.site ≡ n) × (r.life ≡ k.lives n) × (r.epoch ≡ k.epoch)
    × (r.mark ≡ (k.known n r.object).mark)
IsWaiting reads appends c n k (Appends a) =
    In a appends × (a.client ≡ c) × (a.site ≡ n) × (a.life ≡ k.lives n) × (a.epoch ≡ k.epoch) × Unit {0}

pub record ClientLaws (periods : ℕ → ℕ → ℕ → List Line) (sites : ℕ → Arrivals) (reads : List ReadRequest)
    (appends : List AppendRequest) (c : ℕ) (k : Client) : Type 0 where
  pub known : (n o : ℕ) → IsTrueLog periods (sites n) n o (k.known n o)
  pub waits : (n : ℕ) (q : Request) → k.waits n ≡ Some q → IsWaiting reads appends c n k q
  pub had : (n o : ℕ) (l : Line) → In l (had k n o) → HadLine periods (sites n) n (k.lives n) k.epoch l
  pub views : (o : ℕ) → IsAscending (k.view o)

pub record ExchangeLaws (w : Exchange) : Type 0 where
  pub present : (n : ℕ) → w.periods n (w.sites n).life (w.sites n).epoch ≡ (w.sites n).arrived
  pub alive : (n : ℕ) → (w.sites n).life ≢ 0
  pub reads : (r : ReadRequest) → In r w.reads
      → (r.number < w.next) × IsTrueMark w.periods (w.sites r.site) r.site r.object r.mark
  pub appends : (a : AppendRequest) → In a w.appends → (a.number < w.next) × IsShort w.periods w.sites a
  pub one_read : (r q : ReadRequest) → In r w.reads → In q w.reads → r.number ≡ q.number → r ≡ q
  pub one_append : (a b : AppendRequest) → In a w.appends → In b w.appends → a.number ≡ b.number → a ≡ b
  pub granted : (g : ReadGrant) → In g w.granted → IsReadGrant w.periods w.sites w.reads g
  pub agreed : (g : AppendGrant) → In g w.agreed → IsAppendGrant w.periods w.sites w.appends g
  pub clients : (c : ℕ) → ClientLaws w.periods w.sites w.reads w.appends c (w.clients c)
