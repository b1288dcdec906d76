use Rattle.store.proofs.Starts.{not_found, no_chain_lem, whole_chain}
use Rattle.store.proofs.started.Goals as goal

pub returns-in-Err : goal.returns-in-Err
returns-in-Err c =
    let a = c.args in
    not_found a.volume.now a.medium a.store c.in-Err.is c.no_reader.ensures

pub returns-in-Err-chain : goal.returns-in-Err-chain
returns-in-Err-chain c =
    let a = c.args in
    no_chain_lem a.volume.now a.medium a.store c.in-Ok.is c.chain.ensures
    c.in-Err-chain.is c.no_reader-in-Err-chain.ensures

pub returns-in-Ok-chain : goal.returns-in-Ok-chain
returns-in-Ok-chain c =
    let a = c.args in
    whole_chain a.volume.now a.medium a.store c.in-Ok.is c.chain.ensures
    c.in-Ok-chain.is c.start.ensures
