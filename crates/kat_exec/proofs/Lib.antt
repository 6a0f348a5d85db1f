mod Used
mod Examples
mod Paths
