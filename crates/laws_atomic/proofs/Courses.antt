-- Over all that a client does by turns, what it has seen has records with stamps that its clock has passed.
use Rattle.std.proofs.Common.{◌≡◌, ℕ, ◌+◌, ◌-◌, ◌≤◌, length, Bool, true, false, List, [], ◌∷◌, ◌++◌, inl, fold, Option}
use Rattle.std.proofs.Common.{Some, None, refl, sym, ap, ◌∙◌, subst}
use Rattle.std.specs.Prelude.{is_some}
use Rattle.std.specs.List.{AllByRecursion as Every}
use Rattle.std.proofs.lemmas.List.Sums.{fold-append}
use Rattle.qc_stamp.specs.declared.stamp.TxId.{TxId}
use Rattle.qc_list.specs.Vocabulary.{In}
use Rattle.qc_list.proofs.Members.{In-second}
use Rattle.qc_decl.specs.declared.declaration.Declaration.{Declaration}
use Rattle.qc_decl.specs.Vocabulary.{is_client}
use Rattle.qc_entry.specs.declared.record.Commit.{Commit}
use Rattle.qc_msg.specs.declared.record.Record.{Record}
use Rattle.qc_msg.specs.declared.record.Record.TheVariants as records
use Rattle.qc_msg.specs.declared.reply.Reply.{Reply}
use Rattle.qc_msg.specs.declared.step.Input.{Input}
use Rattle.qc_msg.specs.declared.turn.Posting.{Posting}
use Rattle.qc_msg.specs.declared.turn.Turn.{Turn}
use Rattle.qc_msg.specs.Vocabulary.{Deed, Sends, Takes, Writes, quiet, sends_of, tells_of, turn_deeds, writes_of}
use Rattle.qc_client.specs.Vocabulary.{ClientMove, client_after, client_does, client_takes, moved, new_client}
use Rattle.qc_core.specs.Vocabulary.{Acts, IsLawful, MayTake, posts, starts, takes}
use Rattle.qc_promise.specs.Vocabulary.{Account, AreRightFrom, Sight, Status, account_at, account_sent, account_taken}
use Rattle.qc_promise.specs.Vocabulary.{new_account, no_sight, running_row, sight, sight_sent, sight_taken, status_at}
use Rattle.qc_promise.specs.Status as statuses
use Rattle.laws_due.specs.Vocabulary.{AreByRows, Ties}
use Rattle.laws_due.proofs.Commands.{lawful_turn, may_give}
use Rattle.laws_due.proofs.Courses.{deeds_of_clients_are_by_rows, accounts_are_their_clients, turns_tell_their_rows}
use Rattle.laws_atomic.proofs.Alone.{AsksNothing, IsAlone, replies_alone}
use Rattle.laws_atomic.proofs.Founded.{AreFounded, founded-first}
use Rattle.laws_atomic.proofs.Seeing.{Sees, wrote_at}
use Rattle.laws_atomic.proofs.Sights.{sent_sees, wrote_sees}
use Rattle.laws_atomic.proofs.Taking as taking
use Rattle.laws_atomic.proofs.Taking.{IsFree, sent_free}
use Rattle.laws_atomic.proofs.Tellings.{begins_new, told_sees}
use Rattle.qc_core.proofs.Steady.{acts_steady}

-- a turn

module _ (decl : Declaration) (commits : List Commit) (tx : TxId) where
  abbrev pub AfterAll : Account → Sight → List Commit → Status → List Deed → Type 0
  AfterAll d s wrote st ds = Sees commits tx (fold (account_at decl) d ds) (fold (sight tx) s ds)
      (fold wrote_at wrote ds) (fold (status_at tx) st ds)

  sends_see : (n : ℕ) (ps : List Posting) (told : Option Reply) (d : Account) (s : Sight) (wrote : List Commit)
      (st : Status) → Sees commits tx d s wrote st
      → AreByRows decl d (sends_of n ps ++ tells_of told) → AreRightFrom tx st (sends_of n ps ++ tells_of told)
      → (is_some told ≡ true → IsFree s) → (is_some told ≡ true → Every AsksNothing ps)
      → AfterAll d s wrote st (sends_of n ps ++ tells_of told)
  sends_see n [] None d s wrote st w is right free alone = w
  sends_see n [] (Some reply) d s wrote st w is right free alone =
      told_sees decl commits tx d s wrote st w (free refl) reply is.0 (begins_new tx st reply right.0)
  sends_see n (p ∷ ps) told d s wrote st w is right free alone =
      sends_see (n + 1) ps told (account_sent decl d n p.to p.message) (sight_sent s n p.message) wrote
      (status_at tx st (Sends n p.to p.message))
      (sent_sees commits tx d s wrote st w decl n p.to p.message is.0) is.1 right.1
      (λ some. sent_free s n p.message (alone some).0 (free some)) (λ some. (alone some).1)

  pub turn_sees : (n : ℕ) (turn : Turn) (d : Account) (s : Sight) (wrote : List Commit) (st : Status)
      → Sees commits tx d s wrote st
      → AreByRows decl d (turn_deeds n turn) → AreRightFrom tx st (turn_deeds n turn)
      → ((c : Commit) → In (Writes (records.Commit c)) (turn_deeds n turn) → In c commits)
      → (is_some turn.told ≡ true → IsFree s) → IsAlone turn → AfterAll d s wrote st (turn_deeds n turn)
  turn_sees n turn d s wrote st w is right there free alone = by turn.write is right there
    where
      by : (o : Option Record) → AreByRows decl d (writes_of o ++ (sends_of n turn.sends ++ tells_of turn.told))
          → AreRightFrom tx st (writes_of o ++ (sends_of n turn.sends ++ tells_of turn.told))
          → ((c : Commit) → In (Writes (records.Commit c))
          (writes_of o ++ (sends_of n turn.sends ++ tells_of turn.told)) → In c commits)
          → AfterAll d s wrote st (writes_of o ++ (sends_of n turn.sends ++ tells_of turn.told))
      by None is right there = sends_see n turn.sends turn.told d s wrote st w is right free alone
      by (Some written) is right there =
          sends_see n turn.sends turn.told (account_at decl d (Writes written)) s (wrote_at wrote (Writes written))
          (status_at tx st (Writes written))
          (wrote_sees commits tx d s wrote st w decl written
          (λ c same. there c (inl (ap (λ (x : Record). Writes x) (sym same)))) is.0) is.1 right.1 free alone

pub due-second : (decl : Declaration) (d : Account) (xs ys : List Deed) → AreByRows decl d (xs ++ ys)
    → AreByRows decl (fold (account_at decl) d xs) ys
due-second decl d [] ys all = all
due-second decl d (x ∷ xs) ys all = due-second decl (account_at decl d x) xs ys all.1

right-first : (tx : TxId) (st : Status) (xs ys : List Deed) → AreRightFrom tx st (xs ++ ys) → AreRightFrom tx st xs
right-first tx st [] ys all = tt
right-first tx st (x ∷ xs) ys all = (all.0, right-first tx (status_at tx st x) xs ys all.1)

pub right-second : (tx : TxId) (st : Status) (xs ys : List Deed) → AreRightFrom tx st (xs ++ ys)
    → AreRightFrom tx (fold (status_at tx) st xs) ys
right-second tx st [] ys all = all
right-second tx st (x ∷ xs) ys all = right-second tx (status_at tx st x) xs ys all.1

module _ (decl : Declaration) (a : ℕ) (client : is_client decl a ≡ true) (commits : List Commit) (tx : TxId) where
  abbrev account_of : List Deed → Account
  account_of ds = fold (account_at decl) (new_account (a - decl.sites)) ds

  abbrev pub IsAt : List Deed → Type 0
  IsAt ds = AfterAll decl commits tx (new_account (a - decl.sites)) no_sight [] statuses.Unborn ds

  -- more deeds
  more_deeds : (xs ys : List Deed) → AfterAll decl commits tx (account_of xs) (fold (sight tx) no_sight xs)
      (fold wrote_at [] xs) (fold (status_at tx) statuses.Unborn xs) ys → IsAt (xs ++ ys)
  more_deeds xs ys w =
      subst (λ (d : Account). Sees commits tx d (fold (sight tx) no_sight (xs ++ ys)) (fold wrote_at [] (xs ++ ys))
      (fold (status_at tx) statuses.Unborn (xs ++ ys)))
      (sym (fold-append (account_at decl) (new_account (a - decl.sites)) xs ys))
      (subst (λ (s : Sight). Sees commits tx (fold (account_at decl) (account_of xs) ys) s (fold wrote_at [] (xs ++ ys))
      (fold (status_at tx) statuses.Unborn (xs ++ ys))) (sym (fold-append (sight tx) no_sight xs ys))
      (subst (λ (ws : List Commit). Sees commits tx (fold (account_at decl) (account_of xs) ys)
      (fold (sight tx) (fold (sight tx) no_sight xs) ys) ws (fold (status_at tx) statuses.Unborn (xs ++ ys)))
      (sym (fold-append wrote_at [] xs ys))
      (subst (λ (st : Status). Sees commits tx (fold (account_at decl) (account_of xs) ys)
      (fold (sight tx) (fold (sight tx) no_sight xs) ys) (fold wrote_at (fold wrote_at [] xs) ys) st)
      (sym (fold-append (status_at tx) statuses.Unborn xs ys)) w)))

  first_at : IsAt []
  first_at = record {
    begun = refl;
    waiting = λ n among. absurd among;
    shown = λ t among. absurd among;
    committed = λ t among. absurd among;
    seen = λ is t among. absurd among;
    before = λ r among. absurd among;
    ended = λ r among. absurd among;
    stands = λ r among. absurd among;
    listed = λ r is. absurd (let never : ⊥ = cc in never);
  }

  -- an input
  module _ (ds : List Deed) (n : ℕ) (acts : Acts decl a ds false n) (w : IsAt ds) where
    tied : Ties decl (account_of ds) (client_after decl (a - decl.sites) ds).client
    tied = accounts_are_their_clients decl a client ds n acts

    take : (g : Input) → MayTake ds g → AreFounded commits (ds ++ Takes g ∷ [])
        → Sees commits tx (account_taken (account_of ds) g) (sight_taken tx (fold (sight tx) no_sight ds) g)
        (fold wrote_at [] ds) (fold (status_at tx) statuses.Unborn ds)
    take g may f =
        taking.take decl (a - decl.sites) commits tx ds (client_after decl (a - decl.sites) ds).client
        (fold (sight tx) no_sight ds) (fold wrote_at [] ds) (fold (status_at tx) statuses.Unborn ds) tied w g
        (may_give decl (a - decl.sites) ds (acts_steady decl a ds false n acts) g may) f

    taken_at : (g : Input) → MayTake ds g → AreFounded commits (ds ++ Takes g ∷ []) → IsAt (ds ++ Takes g ∷ [])
    taken_at g may f = more_deeds ds (Takes g ∷ []) (take g may f)

    -- and where a reply is due then, nothing is waited for
    pub replied_free : (g : Input) (reply : Reply)
        → running_row decl (account_of (ds ++ Takes g ∷ [])) false ≡ Some reply
        → MayTake ds g → AreFounded commits (ds ++ Takes g ∷ [])
        → IsFree (fold (sight tx) no_sight (ds ++ Takes g ∷ []))
    replied_free g reply is_due may f =
        subst IsFree (sym (fold-append (sight tx) no_sight ds (Takes g ∷ [])))
        (taking.replied_free decl (a - decl.sites) commits tx ds (client_after decl (a - decl.sites) ds).client
        (fold (sight tx) no_sight ds) (fold wrote_at [] ds) (fold (status_at tx) statuses.Unborn ds) tied w g reply
        (subst (λ (d : Account). running_row decl d false ≡ Some reply)
        (fold-append (account_at decl) (new_account (a - decl.sites)) ds (Takes g ∷ [])) is_due)
        (sight_taken tx (fold (sight tx) no_sight ds) g) (take g may f))

  -- at an input
  record IsTaken (ds : List Deed) : Type 0 where
    before : List Deed
    given : Input
    number : ℕ
    is : ds ≡ before ++ Takes given ∷ []
    acts : Acts decl a before false number
    may : MayTake before given
    founded : AreFounded commits (before ++ Takes given ∷ [])
    rest : IsAt before
    here : IsAt ds

  abbrev IsNow : List Deed → Bool → Type 0
  IsNow ds true = IsTaken ds
  IsNow ds false = IsAt ds

  turn_is : (before : List Deed) (g : Input) (turn : Turn) → IsLawful decl a (before ++ Takes g ∷ []) turn
      → turn ≡ (client_takes decl (client_after decl (a - decl.sites) before).client g).turn
  turn_is before g turn law = lawful_turn decl a (before ++ Takes g ∷ []) turn client law
      ∙ ap (λ (m : ClientMove). m.turn) (fold-append (client_does decl)
      (moved (new_client (a - decl.sites)) quiet) before (Takes g ∷ []))

  post : (ds : List Deed) (turn : Turn) (m first : ℕ) → Acts decl a ds true m → (low : m ≤ first)
      → IsLawful decl a ds turn → IsTaken ds
      → AreFounded commits (ds ++ turn_deeds first turn) → AreRightFrom tx statuses.Unborn (ds ++ turn_deeds first turn)
      → IsAt (ds ++ turn_deeds first turn)
  post ds turn m first acts low law t f right =
      more_deeds ds (turn_deeds first turn)
      (turn_sees decl commits tx first turn (account_of ds) (fold (sight tx) no_sight ds) (fold wrote_at [] ds)
      (fold (status_at tx) statuses.Unborn ds) t.here
      (due-second decl (new_account (a - decl.sites)) ds (turn_deeds first turn)
      (deeds_of_clients_are_by_rows decl a client (ds ++ turn_deeds first turn) false (first + length turn.sends)
      (posts ds turn m first acts low law)))
      (right-second tx statuses.Unborn ds (turn_deeds first turn) right)
      (λ c among. f.wrote c (In-second (Writes (records.Commit c)) ds (turn_deeds first turn) among))
      (free turn.told (turns_tell_their_rows decl a client ds m turn acts law))
      (subst IsAlone (sym (turn_is t.before t.given turn
      (subst (λ (xs : List Deed). IsLawful decl a xs turn) t.is law)))
      (replies_alone decl (client_after decl (a - decl.sites) t.before).client t.given)))
    where
      free : (o : Option Reply) → o ≡ running_row decl (account_of ds) false → is_some o ≡ true
          → IsFree (fold (sight tx) no_sight ds)
      free None is some = absurd (let never : ⊥ = cc in never)
      free (Some reply) is some =
          subst (λ (xs : List Deed). IsFree (fold (sight tx) no_sight xs)) (sym t.is)
          (replied_free t.before t.number t.acts t.rest t.given reply
          (subst (λ (xs : List Deed). running_row decl (account_of xs) false ≡ Some reply) t.is (sym is)) t.may
          t.founded)

  now : (ds : List Deed) (b : Bool) (n : ℕ) → Acts decl a ds b n → AreFounded commits ds
      → AreRightFrom tx statuses.Unborn ds → IsNow ds b
  now ds b n starts f right = first_at
  now ds b n (takes older g m acts may) f right =
      let rest : IsAt older = now older false m acts (founded-first commits older (Takes g ∷ []) f)
      (right-first tx statuses.Unborn older (Takes g ∷ []) right) in
      record {
        before = older;
        given = g;
        number = m;
        is = refl;
        acts = acts;
        may = may;
        founded = f;
        rest = rest;
        here = taken_at older m acts rest g may f;
      }
  now ds b n (posts older turn m first acts low law) f right =
      post older turn m first acts low law (now older true m acts
      (founded-first commits older (turn_deeds first turn) f)
      (right-first tx statuses.Unborn older (turn_deeds first turn) right)) f right

  -- so it is after all deeds
  pub clients_see : (ds : List Deed) (b : Bool) (n : ℕ) → Acts decl a ds b n → AreFounded commits ds
      → AreRightFrom tx statuses.Unborn ds → IsAt ds
  clients_see ds b n acts f right = by b (now ds b n acts f right)
    where
      by : (x : Bool) → IsNow ds x → IsAt ds
      by true t = t.here
      by false w = w
