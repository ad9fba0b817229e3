use Rattle.someipctl_io.proofs.options.put_option.Goals as goal

pub returns-in-Multicast4-clause-ok : goal.returns-in-Multicast4-clause-ok
returns-in-Multicast4-clause-ok g c = rw c.in-Multicast4.is (rw c.ipv4_parts-in-Multicast4.ensures at c.put_parts-in-Multicast4.ensures.ok)

pub returns-in-Multicast4-clause-err : goal.returns-in-Multicast4-clause-err
returns-in-Multicast4-clause-err g c = rw c.in-Multicast4.is (rw c.ipv4_parts-in-Multicast4.ensures at c.put_parts-in-Multicast4.ensures.err)

pub returns-in-SdEndpoint4-clause-ok : goal.returns-in-SdEndpoint4-clause-ok
returns-in-SdEndpoint4-clause-ok g c = rw c.in-SdEndpoint4.is (rw c.ipv4_parts-in-SdEndpoint4.ensures at c.put_parts-in-SdEndpoint4.ensures.ok)

pub returns-in-SdEndpoint4-clause-err : goal.returns-in-SdEndpoint4-clause-err
returns-in-SdEndpoint4-clause-err g c = rw c.in-SdEndpoint4.is (rw c.ipv4_parts-in-SdEndpoint4.ensures at c.put_parts-in-SdEndpoint4.ensures.err)

pub returns-in-Multicast6-clause-ok : goal.returns-in-Multicast6-clause-ok
returns-in-Multicast6-clause-ok g c = rw c.in-Multicast6.is c.put_ipv6-in-Multicast6.ensures.ok

pub returns-in-Multicast6-clause-err : goal.returns-in-Multicast6-clause-err
returns-in-Multicast6-clause-err g c = rw c.in-Multicast6.is c.put_ipv6-in-Multicast6.ensures.err

pub returns-in-SdEndpoint6-clause-ok : goal.returns-in-SdEndpoint6-clause-ok
returns-in-SdEndpoint6-clause-ok g c = rw c.in-SdEndpoint6.is c.put_ipv6-in-SdEndpoint6.ensures.ok

pub returns-in-SdEndpoint6-clause-err : goal.returns-in-SdEndpoint6-clause-err
returns-in-SdEndpoint6-clause-err g c = rw c.in-SdEndpoint6.is c.put_ipv6-in-SdEndpoint6.ensures.err
