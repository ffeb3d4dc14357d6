mod Needing
mod Reporting
