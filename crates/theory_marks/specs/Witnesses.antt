-- A run in which a second Read brings only what came since the first, and an Append only what the site lacks.
use Rattle.std.specs.Prelude.{List, [], ◌∷◌}
use Rattle.theory_marks.specs.Acts.{Act, AskRead, CountRead, Join, ServeRead, append_of, exchange}
use Rattle.theory_marks.specs.Exchange.{AppendRequest, ReadGrant, ReadRequest}
use Rattle.theory_marks.specs.Wrong.{line, site}
use Rattle.theory_marks.specs.Marks.{no_mark}

abbrev pub first_read : ReadRequest
first_read = record { number = 0; client = 0; site = 0; epoch = 1; life = 0; object = 0; mark = no_mark }

abbrev pub second_read : ReadRequest
second_read =
    record {
      number = 1;
      client = 0;
      site = 0;
      epoch = 1;
      life = 1;
      object = 0;
      mark = record { life = 1; epoch = 1; count = 1 };
    }

abbrev pub first_grant : ReadGrant
first_grant = record { request = first_read; by = site 1 (line 1 ∷ []) }

abbrev pub second_grant : ReadGrant
second_grant = record { request = second_read; by = site 1 (line 1 ∷ line 2 ∷ []) }

-- newest first
abbrev pub two_reads : List Act
two_reads =
    CountRead second_grant ∷ ServeRead second_read ∷ AskRead 0 0 0 ∷ Join 0 (line 2 ∷ []) ∷ CountRead first_grant
    ∷ ServeRead first_read ∷ AskRead 0 0 0
    ∷ Join 0 (line 1 ∷ []) ∷ []

-- another site got line 3, and the client read it there: the Append to the first site has this line alone
abbrev pub third_read : ReadRequest
third_read = record { number = 2; client = 0; site = 1; epoch = 1; life = 0; object = 0; mark = no_mark }

abbrev pub third_grant : ReadGrant
third_grant = record { request = third_read; by = site 1 (line 3 ∷ []) }

abbrev pub three_reads : List Act
three_reads = CountRead third_grant ∷ ServeRead third_read ∷ AskRead 0 1 0 ∷ Join 1 (line 3 ∷ []) ∷ two_reads

abbrev pub short_append : AppendRequest
short_append = append_of (exchange three_reads) 0 0 0
