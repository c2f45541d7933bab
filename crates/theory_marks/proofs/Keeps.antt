-- Each act keeps the laws.
use Rattle.std.proofs.Common.{◌≡◌, ◌≢◌, ℕ, suc, ◌<◌, inl, inr, List, [], ◌∷◌, None, refl, arith}
use Rattle.theory_marks.specs.Acts.{Act, Allowed, AskAppend, AskRead, Begin, Close, CountAppend, CountRead, Fall}
use Rattle.theory_marks.specs.Acts.{Install, IsRun, Join, Lose, Rise, ServeAppend, ServeRead, after, begins}
use Rattle.theory_marks.specs.Acts.{counts_append, counts_read, exchange, first_exchange, joins, waiting}
use Rattle.theory_marks.proofs.Serves.{join_moves, serve_append_keeps, serve_read_keeps}
use Rattle.theory_marks.proofs.Clients.{begun, client_act, new_laws, waits_after}
use Rattle.theory_marks.proofs.CountsReads.{counts_read_keeps}
use Rattle.theory_marks.proofs.SiteActs.{site_act}
use Rattle.theory_marks.specs.Exchange.{Exchange, new_client}
use Rattle.theory_marks.proofs.CountsAppends.{counts_append_keeps}
use Rattle.theory_marks.proofs.Asks.{ask_append_keeps, ask_read_keeps}
use Rattle.theory_marks.specs.Laws.{ExchangeLaws}

up : (n : ℕ) → suc n ≢ 0
up n e = let h : suc n ≡ 0 = e in omega arith

keeps : (w : Exchange) (a : Act) → Allowed w a → ExchangeLaws w → ExchangeLaws (after w a)
keeps w (Join n lines) ok l = site_act w n (joins (w.sites n) lines) l (join_moves (w.sites n) lines) (l.alive n)
keeps w (Rise n log) ok l =
    site_act w n (record (w.sites n) { life = suc (w.sites n).life; arrived = log }) l
    (record { life = omega arith; epoch = omega arith; how = inr (inl (omega arith)) }) (up (w.sites n).life)
keeps w (Close n) ok l =
    site_act w n (record (w.sites n) { life = suc (w.sites n).life }) l
    (record { life = omega arith; epoch = omega arith; how = inr (inl (omega arith)) }) (up (w.sites n).life)
keeps w (Install n epoch log) ok l =
    site_act w n (record (w.sites n) { epoch = epoch; arrived = log }) l
    (record { life = omega arith; epoch = (let h : (w.sites n).epoch < epoch = ok in omega arith); how = inr (inr ok) })
    (l.alive n)
keeps w (Begin c epoch) ok l =
    client_act w c (begins (w.clients c) epoch) l (begun w c (w.clients c) epoch (l.clients c))
keeps w (AskRead c n o) ok l = ask_read_keeps w c n o l
keeps w (AskAppend c n o) ok l = ask_append_keeps w c n o l
keeps w (ServeRead r) ok l = serve_read_keeps w r l ok
keeps w (ServeAppend a) ok l = serve_append_keeps w a l ok
keeps w (CountRead g) ok l =
    client_act w g.request.client (counts_read (w.clients g.request.client) g) l (counts_read_keeps w g l ok)
keeps w (CountAppend g) ok l =
    client_act w g.request.client (counts_append (w.clients g.request.client) g) l (counts_append_keeps w g l ok)
keeps w (Lose c n) ok l =
    client_act w c (waiting (w.clients c) n None) l (waits_after w c (w.clients c) n (l.clients c))
keeps w (Fall c) ok l = client_act w c new_client l (new_laws w c)

first_laws : ExchangeLaws first_exchange
first_laws = record {
  present = λ n. refl;
  alive = λ n. up 0;
  reads = λ r i. absurd i;
  appends = λ r i. absurd i;
  one_read = λ r q i. absurd i;
  one_append = λ r q i. absurd i;
  granted = λ r i. absurd i;
  agreed = λ r i. absurd i;
  clients = λ c. new_laws first_exchange c;
}

pub laws : (acts : List Act) → IsRun acts → ExchangeLaws (exchange acts)
laws [] run = first_laws
laws (a ∷ older) run = keeps (exchange older) a run.0 (laws older run.1)
