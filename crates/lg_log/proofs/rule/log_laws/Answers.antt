use Rattle.lg_log.proofs.Reading.{zero_is_the_end, all_sessions_see_all, no_session_twice}
use Rattle.lg_log.proofs.rule.log_laws.Goals as goal

pub returns : goal.returns
returns c = record { end = zero_is_the_end; whole = all_sessions_see_all; apart = no_session_twice }
