-- How a clause sees a `Retries`.
use Rattle.git_pkt.specs.declared.retries.Retries.{Retries}

-- the reader inside
abbrev pub inner_of : {R : Type 0} → Retries R → R
inner_of retries = retries.inner
