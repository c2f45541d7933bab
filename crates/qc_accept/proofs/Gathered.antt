-- Reading what stands behind a type's rows in one gives what the type's definition says.
use Rattle.std.proofs.Common.{◌≡◌, ◌≢◌, ℕ, List, Ok, Err, refl, subst}
use Rattle.toml.specs.Data.{Members}
use Rattle.qc_cert.specs.declared.triple.Triple.{Triple}
use Rattle.qc_table.specs.Vocabulary.{Rules, events_of}
use Rattle.qc_table.specs.declared.row.Event.{Event}
use Rattle.qc_accept.specs.declared.fault.DeclFault.{DeclFault}
use Rattle.qc_accept.specs.declared.fault.DeclFault.TheVariants.{OutOfMemory}
use Rattle.qc_accept.specs.declared.kinds.Certificate.{Certificate}
use Rattle.qc_list.specs.Vocabulary.{◌>>=◌}
use Rattle.qc_accept.specs.Vocabulary.{Answer, WordsOf, certificate_of, no_others, relation, rest_of, rows, table_of}
use Rattle.qc_accept.specs.Vocabulary.{triples, type_keys, type_of, type_with, words}
use Rattle.qc_accept.proofs.Told.{then_err}
use Rattle.qc_accept.proofs.TypeFields.{has_ruled, has_words}

-- a relation and its triples
abbrev certified : List ℕ → List Triple → Certificate
certified rel ts = record { relation = rel; triples = ts }

gathered : (w : WordsOf) (rules : Rules) (r : Answer (List ℕ)) (t : Answer (List Triple)) (n : Answer (Unit {0}))
    → (r >>= (λ rel. t >>= (λ ts. n >>= (λ _. Ok (type_with w rules (certified rel ts)))))) ≡
    ((r >>= (λ rel. t >>= (λ ts. n >>= (λ _. Ok (certified rel ts))))) >>= (λ c. Ok (type_with w rules c)))
gathered w rules (Err fault) t n = refl
gathered w rules (Ok rel) (Err fault) n = refl
gathered w rules (Ok rel) (Ok ts) (Err fault) = refl
gathered w rules (Ok rel) (Ok ts) (Ok none) = refl

-- a type whose words and rows are read is what stands behind them
pub rest_is : (path : List ℕ) (table : Members) (place : ℕ) (name : List ℕ) (w : WordsOf) (rules : Rules)
    → words path table ≡ Ok w
    → (rows path table w >>= table_of place name w) ≡ Ok rules
    → type_of path table place name ≡ rest_of path table w rules
rest_is path table place name w rules a b =
    has_words path table place name w (rest_of path table w rules) a
    (has_ruled path table place name w rules (events_of rules.rows) (rest_of path table w rules) b refl
    (gathered w rules (relation path table w (events_of rules.rows)) (triples path table w (events_of rules.rows))
    (no_others path table type_keys)))

-- what stands behind them has a fault
pub rest_err : (path : List ℕ) (table : Members) (w : WordsOf) (rules : Rules) (events : List Event) (fault : DeclFault)
    → events ≡ events_of rules.rows
    → (fault ≢ OutOfMemory → certificate_of path table w events ≡ Err fault) → fault ≢ OutOfMemory
    → rest_of path table w rules ≡ Err fault
rest_err path table w rules events fault same is apart =
    then_err (certificate_of path table w (events_of rules.rows)) (λ c. Ok (type_with w rules c)) fault
    (subst (λ (es : List Event). fault ≢ OutOfMemory → certificate_of path table w es ≡ Err fault) same is) apart
