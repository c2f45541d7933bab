-- Turns that tell a reply, that send decisions before it, or that ask sites.
use Rattle.std.proofs.Common.{false, ◌≡◌, ◌≤◌, ℕ, ◌+◌, ◌||◌, Bool, true, List, [], ◌∷◌, ◌++◌, map, Option, Some, None}
use Rattle.std.proofs.Common.{refl, sym, ap, ◌∙◌, subst, arith, append_assoc}
use Rattle.std.specs.Prelude.{fold}
use Rattle.std.proofs.lemmas.List.{append-nil}
use Rattle.qc_decl.specs.declared.declaration.Declaration.{Declaration}
use Rattle.qc_view.specs.declared.view.View.{View}
use Rattle.qc_commit.specs.declared.desk.Desk.{Desk}
use Rattle.qc_front.specs.declared.doing.Doing.{Doing}
use Rattle.qc_front.specs.declared.doing.Doing.TheVariants.{Idle}
use Rattle.qc_front.specs.declared.transaction.Transaction.{Transaction}
use Rattle.qc_client.specs.declared.client.Client.{Client}
use Rattle.qc_client.specs.Vocabulary.{ClientMove, client_does, moved, requested}
use Rattle.qc_msg.specs.declared.begun.Begun.{Begun}
use Rattle.qc_msg.specs.declared.call.Call.{Call}
use Rattle.qc_msg.specs.declared.message.Message.TheVariants as messages
use Rattle.qc_msg.specs.declared.message.Outcome.{Outcome}
use Rattle.qc_msg.specs.declared.message.Want.{Want}
use Rattle.qc_msg.specs.declared.reply.Reply.{Reply}
use Rattle.qc_msg.specs.declared.turn.Turn.{Turn}
use Rattle.qc_msg.specs.Vocabulary.{Deed, Tells, calls_from, decisions, ending, quiet, sends_of, telling, with_call}
use Rattle.qc_promise.specs.Vocabulary.{Account, ClientRequest, Current, IsReplyDue, account_at, account_told}
use Rattle.qc_promise.specs.Vocabulary.{command_asks, doomed_if, running_row, view_of}
use Rattle.laws_due.specs.Vocabulary.{AreByRows, Goes, IsBegun, IsIdleDesk, Ties, front_of, rests, transaction_of}
use Rattle.laws_due.proofs.Asks.{asking, asks_due, asks_fold}
use Rattle.laws_due.proofs.Requests.{request_at, requests_from}
use Rattle.laws_due.proofs.Views.{LogsAre}

abbrev pub client_at : Account → Desk → Option Transaction → Doing → Client
client_at d desk x doing = record { front = front_of d x doing; desk = desk }

-- the desk as it is, and an account that has learned no less
pub desk_kept : (d e : Account) (desk : Desk) → IsIdleDesk d desk → d.client ≡ e.client → d.clock ≤ e.clock
    → d.known ≤ e.known → IsIdleDesk e desk
desk_kept d e desk k client clock known = record {
  client = k.client ∙ client;
  clock = (let low : desk.clock.value ≤ d.clock = k.clock in omega arith);
  epoch = (let low : desk.epoch ≤ d.known = k.epoch in omega arith);
  voting = k.voting;
}

-- nothing runs any more
abbrev pub rested : Account → Option Current → Account
rested d t = record d { command = None; requests = []; written = None; current = t }

pub rest_ties : (decl : Declaration) (d : Account) (desk : Desk) (t : Current) (x : Transaction) → IsIdleDesk d desk
    → IsBegun t x → Ties decl (rested d (Some t)) (client_at d desk (Some x) Idle)
rest_ties decl d desk t x k b = rests (record {
  command = tt;
  requests = refl;
  written = refl;
  begun = b;
  front = refl;
  desk = record { client = k.client; clock = k.clock; epoch = k.epoch; voting = k.voting };
})

pub none_ties : (decl : Declaration) (d : Account) (desk : Desk) → IsIdleDesk d desk
    → Ties decl (rested d None) (client_at d desk None Idle)
none_ties decl d desk k = rests (record {
  command = tt;
  requests = refl;
  written = refl;
  begun = tt;
  front = refl;
  desk = record { client = k.client; clock = k.clock; epoch = k.epoch; voting = k.voting };
})

-- a refusal dooms, or doesn't
pub doomed_begun : (t : Current) (asked : List ℕ) (views : List View) (b e : Bool) → LogsAre (view_of t) views
    → e ≡ (t.doomed || b) → IsBegun (doomed_if b t) (transaction_of (record t { doomed = e }) asked views)
doomed_begun t asked views b e logs is =
    record { is = λ i. transaction_of (record t { doomed = is i }) asked views; logs = logs }

module _ (decl : Declaration) (number : ℕ) where
  -- nothing is done
  pub still_goes : (d : Account) (c : Client) → running_row decl d false ≡ None → Ties decl d c
      → Goes decl number d (moved c quiet)
  still_goes d c none ties = record { tells = sym none; due = tt; ties = ties }

  -- a reply alone
  pub tells_goes : (d : Account) (reply : Reply) (c : Client) → IsReplyDue d (running_row decl d false) [] reply
      → Ties decl (account_told decl d reply) c → Goes decl number d (moved c (telling reply))
  tells_goes d reply c is ties = record { tells = sym is.0; due = (is, tt); ties = ties }

  -- decisions are nothing to the account and to the client

  pub decided_account : (b : Begun) (o : Outcome) (d : Account) (k : ℕ) (sites : List ℕ) (ys : List Deed)
      → fold (account_at decl) d (sends_of k (map
      (λ site. record { to = site; message = messages.Decision b.tx o }) sites) ++ ys) ≡ fold (account_at decl) d ys
  decided_account b o d k [] ys = refl
  decided_account b o d k (s ∷ sites) ys = decided_account b o d (k + 1) sites ys

  pub decided_due : (b : Begun) (o : Outcome) (d : Account) (k : ℕ) (sites : List ℕ) (ys : List Deed)
      → AreByRows decl d ys
      → AreByRows decl d (sends_of k (map (λ site. record { to = site; message = messages.Decision b.tx o }) sites)
      ++ ys)
  decided_due b o d k [] ys is = is
  decided_due b o d k (s ∷ sites) ys is = (tt, decided_due b o d (k + 1) sites ys is)

  pub decided_client : (b : Begun) (o : Outcome) (move : ClientMove) (k : ℕ) (sites : List ℕ) (ys : List Deed)
      → fold (client_does decl) move (sends_of k
      (map (λ site. record { to = site; message = messages.Decision b.tx o }) sites) ++ ys) ≡ fold
      (client_does decl) move ys
  decided_client b o move k [] ys = refl
  decided_client b o move k (s ∷ sites) ys = decided_client b o move (k + 1) sites ys

  -- a reply after decisions
  pub ends_goes : (d : Account) (b : Begun) (o : Outcome) (reply : Reply) (c : Client)
      → IsReplyDue d (running_row decl d false) [] reply → Ties decl (account_told decl d reply) c
      → Goes decl number d (moved c (ending (decisions b o) reply))
  ends_goes d b o reply c is ties = record {
    tells = sym is.0;
    due = decided_due b o d number b.asked (Tells reply ∷ []) (is, tt);
    ties =
        subst (λ (e : Account). Ties decl e (fold (client_does decl) (moved c (ending (decisions b o) reply))
        (sends_of number (decisions b o) ++ Tells reply ∷ [])).client)
        (sym (decided_account b o d number b.asked (Tells reply ∷ [])))
        (subst (λ (m : ClientMove). Ties decl (account_told decl d reply) m.client)
        (sym (decided_client b o (moved c (ending (decisions b o) reply)) number b.asked (Tells reply ∷ []))) ties);
  }

  -- requests, which get their numbers

  module _ (d : Account) (t : Current) (want : Want) (P : List ClientRequest → List ℕ → Type 0)
      (step : (n site : ℕ) (ss : List ℕ) (qs : List ClientRequest) → P qs (site ∷ ss)
      → (command_asks decl (record d { requests = qs; current = Some t }) t site want d.command ≡ true)
      × P (qs ++ request_at n t want site ∷ []) ss)
      (make : List Call → Client) (turn : Turn)
      (sent_one : (calls : List Call) (n site : ℕ)
      → requested (make calls) n site want ≡ make (with_call calls n site)) where
    numbered : (ss : List ℕ) (n : ℕ) (calls : List Call)
        → fold (client_does decl) (moved (make calls) turn) (sends_of n (map (asking t want) ss)) ≡ moved
        (make (calls ++ calls_from n ss)) turn
    numbered [] n calls = ap (λ (cs : List Call). moved (make cs) turn) (sym (append-nil calls))
    numbered (s ∷ ss) n calls =
        ap (λ (c : Client). fold (client_does decl) (moved c turn) (sends_of (n + 1) (map (asking t want) ss)))
        (sent_one calls n s)
        ∙ numbered ss (n + 1) (with_call calls n s)
        ∙ ap (λ (cs : List Call). moved (make cs) turn)
        (append_assoc calls (record { number = n; site = s } ∷ []) (calls_from (n + 1) ss))

    pub record Asked (ss : List ℕ) (qs : List ClientRequest) (calls : List Call) : Type 0 where
      pub due : AreByRows decl (record d { requests = qs; current = Some t })
          (sends_of number (map (asking t want) ss) ++ [])
      pub ties : Ties decl (fold (account_at decl) (record d { requests = qs; current = Some t })
          (sends_of number (map (asking t want) ss) ++ []))
          (fold (client_does decl) (moved (make calls) turn) (sends_of number (map (asking t want) ss) ++ [])).client

    pub asks_go : (ss : List ℕ) (qs : List ClientRequest) (calls : List Call) → P qs ss
        → Ties decl (record d { requests = qs ++ requests_from number t want ss; current = Some t })
        (make (calls ++ calls_from number ss)) → Asked ss qs calls
    asks_go ss qs calls p ties =
        subst (λ (ds : List Deed). AreByRows decl (record d { requests = qs; current = Some t }) ds
        → Ties decl (fold (account_at decl) (record d { requests = qs; current = Some t }) ds)
        (fold (client_does decl) (moved (make calls) turn) ds).client → Asked ss qs calls)
        (append-nil (sends_of number (map (asking t want) ss)))
        (λ due after. record { due = due; ties = after })
        (asks_due decl d t want P step ss number qs p)
        (subst (λ (e : Account). Ties decl e (fold (client_does decl) (moved (make calls) turn)
        (sends_of number (map (asking t want) ss))).client) (sym (asks_fold decl d t want P step ss number qs p))
        (subst (λ (m : ClientMove). Ties decl (record d
        { requests = qs ++ requests_from number t want ss; current = Some t }) m.client)
        (sym (numbered ss number calls)) ties))
