use Rattle.std.proofs.Common.{[]}
use Rattle.cache_run.proofs.devices.Sending.{sent_flushed}
use Rattle.cache_run.proofs.driver.handing.send_whole.Goals as goal

pub returns-in-Ok-clause-ok : goal.returns-in-Ok-clause-ok
returns-in-Ok-clause-ok g c = sent_flushed _ _ _ _ c.in_ok-send.ensures.ok c.flush.ensures.bytes

pub returns-in-Err-clause-err : goal.returns-in-Err-clause-err
returns-in-Err-clause-err g c = ([], sent_flushed _ _ _ _ c.in_ok-send.ensures.ok c.flush.ensures.bytes)
